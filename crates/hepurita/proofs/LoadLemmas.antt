-- Slots inside the frame, and arguments put into them one after another.
use Rattle.std.proofs.Common.{◌≡◌, ℕ, zero, suc, ◌+◌, ◌-◌, ◌^◌, ◌<◌, ◌≤◌, List, [], ◌∷◌, length, map, drop, get_or}
use Rattle.std.proofs.Common.{slice_index_or, is_some, true, refl, ap, arith, drop-cons, add-one}
use Rattle.std.specs.List.{AllByRecursion}
use Rattle.hepurita.specs.Below.{AreWithin, Arg, Boolean, ByteMap, HasShape, Param, SingleWord, Slot, slot_end}
use Rattle.hepurita.specs.Below.{slots_end, with_argument, with_arguments, zeros}
use Rattle.language.specs.declared.signature.Label.TheVariants.{Public}
use Rattle.hepurita.specs.Frames.{HoldsSlot}
use Rattle.hepurita.proofs.DataLemmas.{zeros_there}

-- each slot of an image lies in its frame, where that is data
pub slots_held : (frame bytes : ℕ) (there : ByteMap) (slots : List Slot)
    → AllByRecursion (λ slot. slot_end slot ≤ bytes) slots → frame + bytes < 2 ^ 32
    → ((x : ℕ) → frame ≤ x → x < frame + bytes → is_some (there x) ≡ true)
    → AllByRecursion (HoldsSlot frame there) slots
slots_held frame bytes there [] inside below holds = tt
slots_held frame bytes there (slot ∷ slots) inside below holds =
    let first : slot_end slot ≤ bytes = inside.0 in (
      record { below = omega arith; data_there = λ x low high. holds x (omega arith) (omega arith) },
      slots_held frame bytes there slots inside.1 below holds,
    )

pub slots_hold : (frame bytes : ℕ) (slots : List Slot) → AllByRecursion (λ slot. slot_end slot ≤ bytes) slots
    → frame + bytes < 2 ^ 32 → AllByRecursion (HoldsSlot frame (zeros frame bytes)) slots
slots_hold frame bytes slots inside below =
    slots_held frame bytes (zeros frame bytes) slots inside below (zeros_there frame bytes)

-- one argument for each parameter
pub length-within : (params : List Param) (args : List Arg) → AreWithin params args → length args ≡ length params
length-within [] [] within = refl
length-within (param ∷ params) (arg ∷ args) within = ap suc (length-within params args within.1)
length-within params args within = absurd within

-- each argument has its parameter's shape
pub shape_at : (slots : List Slot) (args : List Arg) (i : ℕ) (slot : Slot) (arg : Arg)
    → AreWithin (map (λ (s : Slot). s.param) slots) args → i < length slots
    → HasShape (slice_index_or slots i slot).param.form (slice_index_or slots i slot).param.length
    (slice_index_or args i arg)
shape_at [] args i slot arg within below = absurd (omega arith)
shape_at (s ∷ slots) [] i slot arg within below = absurd within
shape_at (s ∷ slots) (a ∷ args) zero slot arg within below = within.0.shape
shape_at (s ∷ slots) (a ∷ args) (suc i) slot arg within below = shape_at slots args i slot arg within.1 (omega arith)

-- putting what is left begins with the next argument
pub with_arguments-next : (frame : ℕ) (bytes : ByteMap) (slots : List Slot) (args : List Arg) (i : ℕ) (slot : Slot)
    (arg : Arg) → i < length slots → i < length args
    → with_arguments frame bytes (drop i slots) (drop i args)
    ≡ with_arguments frame (with_argument frame bytes (slice_index_or slots i slot) (slice_index_or args i arg))
    (drop (i + 1) slots) (drop (i + 1) args)
with_arguments-next frame bytes slots args i slot arg below below' =
    rw (add-one i, drop-cons slots i slot below, drop-cons args i arg below')

-- what stands where there is no slot
abbrev pub no_slot : Slot
no_slot = record { param = record { kind = Boolean; label = Public; form = SingleWord; length = 0 }; offset = 0 }
