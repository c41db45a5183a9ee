-- Reading items one after another, as a loop does.
use Rattle.std.proofs.Common.{◌≡◌, ℕ, zero, suc, ◌-◌, ◌+◌, ◌≤◌, ◌<◌, List, [], ◌∷◌, ◌++◌, Result, Ok, Err, refl}
use Rattle.std.proofs.Common.{append_assoc, arith}
use Rattle.std.proofs.lemmas.List.{append-nil}
use Rattle.std.specs.Result.{IsErrAnd}
use Rattle.image.specs.Format.{Format}
use Rattle.image.specs.Reading.{one, slot_format, slots_format, words_format}
use Rattle.image.specs.declared.fault.ImageFault.{ImageFault}
use Rattle.image.specs.declared.field.Field.TheVariants as fields
use Rattle.image.specs.declared.reading.Reader.{Reader}
use Rattle.image.specs.private.Following.{FaultIs, Leads, ahead}
use Rattle.image.specs.Below.{slot_end}

-- a fault that is passed on, after steps that lead there
pub passed : {T : Type 0} (format later : Format) (next : T
    → Format) (r : Result T ImageFault) (fault : ImageFault) (old mid new : Reader)
    → IsErrAnd r (λ e. e ≡ fault) → ahead format old ≡ ahead later mid → FaultIs fault (ahead later mid)
    → Leads format next r old new
passed format later next (Ok x) fault old mid new h same is = absurd h
passed format later next (Err e) fault old mid new h same is =
    rw (h, same) is

-- A format of so many items: of none, and of one and the others. What an item has to be may depend on what stands
-- before.
pub record Repeats {A S : Type 0} (each : S → (A → Format) → Format) (after : A → S) (many : ℕ → S
    → (List A → Format) → Format)
    : Type 0 where
  pub none : (s : S) (next : List A → Format) → many zero s next ≡ next []
  pub some : (n : ℕ) (s : S) (next : List A → Format)
      → many (suc n) s next ≡ each s (λ item. many n (after item) (λ items. next (item ∷ items)))

pub slots_repeat : Repeats slot_format slot_end slots_format
unfolding slots_format
slots_repeat = record { none = λ _ _. refl; some = λ _ _ _. refl }

pub words_repeat : Repeats (λ (_ : ℕ). one fields.Word) (λ _. 0) (λ n (_ : ℕ). words_format n)
unfolding words_format
words_repeat = record { none = λ _ _. refl; some = λ _ _ _. refl }

module _ {A S : Type 0} {each : S → (A → Format) → Format} {after : A → S} {many : ℕ → S → (List A → Format)
    → Format} (r : Repeats each after many) where
  -- what is still to be read, after so many items
  abbrev left : (count i : ℕ) → S → List A → (List A → Format) → Format
  left count i s front next = many (count - i) s (λ items. next (front ++ items))

  one_more : (count i : ℕ) (s : S) (front : List A) (next : List A → Format)
      → i < count → left count i s front next
      ≡ each s (λ item. left count (i + 1) (after item) (front ++ item ∷ []) next)
  one_more count i s front next lt =
      let k : count - i ≡ suc (count - (i + 1)) = omega arith in
      rw (k, r.some (count - (i + 1)) s (λ items. next (front ++ items))) (simp append_assoc)

  pub goes_on : (count i : ℕ) (s : S) (front : List A) (next : List A → Format) (item : A) (old new : Reader)
      → i < count → ((k : A → Format) → ahead (each s k) old ≡ ahead (k item) new)
      → ahead (left count i s front next) old ≡ ahead (left count (i + 1) (after item) (front ++ item ∷ []) next) new
  goes_on count i s front next item old new lt leads = rw (one_more count i s front next lt) (leads _)

  pub fails : (count i : ℕ) (s : S) (front : List A) (next : List A → Format) (fault : ImageFault) (old : Reader)
      → i < count → ((k : A → Format) → FaultIs fault (ahead (each s k) old))
      → FaultIs fault (ahead (left count i s front next) old)
  fails count i s front next fault old lt leads = rw (one_more count i s front next lt) (leads _)

  pub is_done : (count i : ℕ) (s : S) (front : List A) (next : List A → Format) (old : Reader)
      → count ≤ i → ahead (left count i s front next) old ≡ ahead (next front) old
  is_done count i s front next old le =
      let k : count - i ≡ 0 = omega arith in
      rw (k, r.none s (λ items. next (front ++ items)), append-nil front)
