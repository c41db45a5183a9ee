-- One range more.
use Rattle.std.proofs.Common.{◌≡◌, ◌+◌, ◌<◌, ◌++◌, ◌∷◌, ◌∙◌, ◌&&◌, ◌||◌, ℕ, Bool, true, false, List, []}
use Rattle.std.proofs.Common.{ap, arith, get_or, length, map, refl, sym, take}
use Rattle.std.proofs.Math.Path.{fun_ext}
use Rattle.std.proofs.lemmas.List.{map_more, take_all}
use Rattle.std.proofs.lemmas.List.Folds.{list_any-append}
use Rattle.std.specs.List.{list_any}
use Rattle.elf_memory.specs.Below.{lies_in, lies_within}
use Rattle.elf_memory.specs.declared.memory_range.MemoryRange.{MemoryRange}
use Rattle.elf_memory.specs.Ranges.{has_address, is_variable, may_be_stored_to}
use Rattle.elf_memory.specs.Memory.{range_of, RangeState}
use Rattle.elf_memory.proofs.machine_memory.variable_ranges.Goals.{then-is_variable+in_ok-push, else-is_variable}
use Rattle.elf_memory.proofs.machine_memory.variable_ranges.Goals as goal

or_no : (b : Bool) → (b || false) ≡ b
or_no true = refl
or_no false = refl

-- whether an address is in one of the ranges up to this one
one_more : (a : ℕ) (ranges : List MemoryRange) (i : ℕ) (range : MemoryRange) (before now : Bool) → i < length ranges
    → range ≡ get_or ranges i range → before ≡ may_be_stored_to (map range_of (take i ranges)) a
    → now ≡ (before || (is_variable (range_of range) && has_address a (range_of range)))
    → now ≡ may_be_stored_to (map range_of (take (i + 1) ranges)) a
one_more a ranges i range before now within is so_far one =
    let test = λ (r : RangeState). is_variable r && has_address a r in
    let front = map range_of (take i ranges) in
    let last = range_of range in
    one ∙ ap (λ b. b || test last) so_far
    ∙ sym (ap (list_any test) (map_more range_of ranges i range within ∙ ap (λ r. front ++ range_of r ∷ []) (sym is))
    ∙ list_any-append test front (last ∷ []) ∙ ap (λ b. list_any test front || b) (or_no (test last)))

pub each-preserved : goal.each-preserved
each-preserved c = λ a.
    let range = c.range-item.result in
    let before = lies_within c.each.variable.items a in
    let now : lies_within c.if-is_variable.variable.items a
    ≡ (before || (is_variable (range_of range) && has_address a (range_of range))) =
    elim c.if-is_variable.branch [
      | then-is_variable+in_ok-push w ↦
          rw (
            w.variable-is,
            w.in_ok-push.ensures.items,
            list_any-append (lies_in a) c.each.variable.items (w.addresses_of.result ∷ []),
            w.addresses_of.ensures.begin,
            w.addresses_of.ensures.end,
            sym c.is_variable.ensures,
            w.if-is_variable.true,
          ) (ap (λ b. before || b) (or_no (has_address a (range_of range))))
      | else-is_variable w ↦
          rw (w.variable-is, sym c.is_variable.ensures, w.if-is_variable.false) (sym (or_no before))
    ] in
    one_more a c.args.ranges.now c.each.range-index range before _ c.each-test.true c.range-item.is (c.each.invariant a) now

pub returns : goal.returns
returns c =
    let all = take_all c.each.range-index c.args.ranges.now (omega (arith, c.each-test.false)) in
    fun_ext (λ a. c.each.invariant a ∙ ap (λ some. may_be_stored_to (map range_of some) a) all)
