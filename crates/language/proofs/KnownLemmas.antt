-- What is known of a name is made of the first procedure that has it, from what is known of those before it.
use Rattle.std.proofs.Common.{◌≡◌, ℕ, Bool, true, false, if◌then◌else◌, List, [], ◌∷◌, ◌++◌, Option, Some, None, refl}
use Rattle.std.proofs.Common.{sym, ap, ◌∙◌}
use Rattle.std.specs.Option.{option_map}
use Rattle.std.specs.Str.{bytes_eq}
use Rattle.language.specs.Known.{Known, nothing_known, first_known, with_known, known_from, known_of}
use Rattle.language.specs.Meaning.{named}
use Rattle.language.specs.Tree.{ProcedureTree}

-- a procedure, and those before it
abbrev pub Found : Type 0
Found = List ProcedureTree × ProcedureTree

module _ {A : Type 0} (make : Known A → ProcedureTree → A) where
  abbrev pub made : Found → A
  made found = make (known_of make found.0) found.1

  first-none : (o : Option A) → first_known o None ≡ o
  first-none (Some one) = refl
  first-none None = refl

  first-kept : (o rest : Option A) (one : A) → first_known (first_known o (Some one)) rest ≡ first_known o (Some one)
  first-kept (Some known) rest one = refl
  first-kept None rest one = refl

  first-passed : (o rest : Option A) → first_known (first_known o None) rest ≡ first_known o rest
  first-passed (Some known) rest = refl
  first-passed None rest = refl

  one-more : (known : Known A) (ps : List ProcedureTree) (p : ProcedureTree)
      → known_from make known (ps ++ p ∷ [])
      ≡ with_known (known_from make known ps) p.name (make (known_from make known ps) p)
  one-more known [] p = refl
  one-more known (q ∷ ps) p = one-more (with_known known q.name (make known q)) ps p

  known-after : (before ps : List ProcedureTree) (text : List ℕ)
      → known_from make (known_of make before) ps text
      ≡ first_known (known_of make before text) (option_map made (named before ps text))
  known-after before [] text = sym (first-none (known_of make before text))
  known-after before (p ∷ ps) text =
      ap (λ (known : Known A). known_from make known ps text) (sym (one-more nothing_known before p))
      ∙ (known-after (before ++ p ∷ []) ps text
      ∙ (ap (λ (known : Known A). first_known (known text) (option_map made (named (before ++ p ∷ []) ps text)))
      (one-more nothing_known before p)
      ∙ by_name (bytes_eq text p.name)))
    where
      by_name : (same : Bool)
          → first_known (first_known (known_of make before text) (if same then Some (made (before, p)) else None))
          (option_map made (named (before ++ p ∷ []) ps text))
          ≡ first_known (known_of make before text)
          (option_map made (if same then Some (before, p) else named (before ++ p ∷ []) ps text))
      by_name true = first-kept (known_of make before text) (option_map made (named (before ++ p ∷ []) ps text))
          (made (before, p))
      by_name false = first-passed (known_of make before text) (option_map made (named (before ++ p ∷ []) ps text))

  pub known_by_name : (ps : List ProcedureTree) (text : List ℕ)
      → known_of make ps text ≡ option_map made (named [] ps text)
  known_by_name ps text = known-after [] ps text

  pub known-named : (ps before : List ProcedureTree) (p : ProcedureTree) (text : List ℕ)
      → named [] ps text ≡ Some (before, p) → known_of make ps text ≡ Some (make (known_of make before) p)
  known-named ps before p text is = known_by_name ps text ∙ ap (option_map made) is

  -- and else it stands for nothing
  pub known-none : (ps : List ProcedureTree) (text : List ℕ) → named [] ps text ≡ None → known_of make ps text ≡ None
  known-none ps text is = known_by_name ps text ∙ ap (option_map made) is
