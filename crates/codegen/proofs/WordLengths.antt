-- How long the code of words is.
use Rattle.std.proofs.Common.{ℕ, ◌+◌, ◌*◌, ◌≤◌, length, Option, None, Some, arith, length-append}
use Rattle.codegen.proofs.Language.{TermTree, term_nodes}
use Rattle.codegen.proofs.Logic.{into_length, move_length, one_of, store_length}
use Rattle.codegen.proofs.Machine.{InRegister, InSlot, into_code, Location, Frame}
use Rattle.codegen.specs.private.Words.{assign_code, home_of_term, put_word_code, read_code, stored_code}
use Rattle.codegen.specs.private.Words.{stored_register, gives_zero, unless_home}
use Rattle.expression_code.specs.Layout.{term_layout}

pub value_length : (layout : Frame) (d place : ℕ) (e : TermTree)
    → length (into_code (term_layout layout) d place e) ≤ 16 * term_nodes e
value_length layout d place e = omega (arith, into_length (term_layout layout) d place e)

pub read_length : (layout : Frame) (register place : ℕ) (e : TermTree)
    → length (read_code layout register place e) ≤ 16 * term_nodes e
read_length layout register place e = by_home (home_of_term layout.allocation e)
  where
    by_home : (h : Option ℕ) → length (unless_home h (into_code (term_layout layout) register place e))
        ≤ 16 * term_nodes e
    by_home None = value_length layout register place e
    by_home (Some home) = omega arith

pub stored_length : (layout : Frame) (e : TermTree)
    → length (stored_code layout e) ≤ 16 * term_nodes e
stored_length layout e =
    one_of (gives_zero layout.allocation e) _ _ (16 * term_nodes e) (omega arith) (read_length layout 5 0 e)

pub assign_length : (layout : Frame) (e : TermTree) (o : ℕ)
    → length (assign_code layout e o) ≤ 16 * term_nodes e + 3
assign_length layout e o =
    simp length-append (omega (
      arith,
      stored_length layout e,
      store_length (stored_register layout.allocation e) o,
    ))

pub put_word_length : (r : ℕ) (l : Location) → length (put_word_code r l) ≤ 3
put_word_length r (InRegister home) = omega (arith, move_length home r)
put_word_length r (InSlot o) = store_length r o
