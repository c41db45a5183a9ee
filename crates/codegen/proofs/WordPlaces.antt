-- Where the words that statements put have room.
use Rattle.std.proofs.Common.{◌≡◌, ℕ, ◌<◌, List, [], ◌∷◌, length, Option, None, Some, refl, arith, subst}
use Rattle.std.proofs.lemmas.Option.{cond_some}
use Rattle.codegen.proofs.Language.{FlatVariable, straight_block, StraightStatement, TermTree}
use Rattle.codegen.proofs.Logic.{none-some, same_Some}
use Rattle.codegen.proofs.Machine.{Allocation, Frame, IsAmong, word_put}
use Rattle.codegen.specs.Below.{binary, ShiftRight, variable, W32}
use Rattle.codegen.specs.declared.word_puts.WordByte.{WordByte}
use Rattle.expression_code.specs.NumberRows.{number_of}
use Rattle.codegen.specs.private.Placed.{IsPlaced}
use Rattle.codegen.specs.private.WordPuts.{lowest_byte, moved_down}

moved_among : (count : ℕ) (word : TermTree) (o : Option ℕ) (byte : WordByte) → moved_down word o ≡ Some byte
    → IsAmong count word → byte.variable < count
moved_among count (variable x) (Some n) byte is among =
    subst (λ (b : WordByte). b.variable < count) (cond_some _ _ byte is).1 among
moved_among count word o byte is among = absurd (none-some byte is)

-- the variable of a byte is among those of the expression
lowest_among : (count : ℕ) (e : TermTree) (byte : WordByte) → lowest_byte e ≡ Some byte → IsAmong count e
    → byte.variable < count
lowest_among count (variable x) byte is among =
    subst (λ (b : WordByte). b.variable < count) (same_Some _ byte is) among
lowest_among count (binary source ShiftRight W32 word amount) byte is among =
    moved_among count word (number_of amount) byte is among.0
lowest_among count e byte is among = absurd (none-some byte is)

-- so it has its place
pub lowest_placed : (layout : Frame) (e : TermTree) (byte : WordByte) → lowest_byte e ≡ Some byte
    → IsPlaced layout 1 e → IsPlaced layout 0 (variable byte.variable)
lowest_placed layout e byte is placed =
    (lowest_among (length layout.declared) e byte is placed.0, omega (arith, placed.1))

-- less than four statements put no word
pub too_few : (declared : List FlatVariable) (a : Allocation) (statements : List StraightStatement)
    → length statements < 4 → None ≡ word_put declared a (straight_block statements)
too_few declared a [] few = refl
too_few declared a (s ∷ []) few = refl
too_few declared a (s ∷ t ∷ []) few = refl
too_few declared a (s ∷ t ∷ u ∷ []) few = refl
too_few declared a (s ∷ t ∷ u ∷ v ∷ rest) few = absurd (omega (arith, few))
