-- What is put into an element for an expression: it is read as that expression is, and its store makes the same of it.
use Rattle.std.proofs.Common.{Some, ◌∙◌, ◌≡◌, ℕ, ◌%◌, ◌^◌, ◌<◌, ◌≤◌, true, refl, sym, arith}
use Rattle.std.proofs.lemmas.Bool.{cond_both, false≢true}
use Rattle.codegen.proofs.Choices.{of_choice}
use Rattle.codegen.proofs.Language.{bits_of, element_bytes, TermHasType, Kind, labelled, path_in, term_nodes, TermTree}
use Rattle.codegen.proofs.Language.{Types, value_in, Values, WordType}
use Rattle.codegen.proofs.Machine.{Allocation, height_of}
use Rattle.codegen.proofs.Slots.{cut_number}
use Rattle.codegen.specs.private.StoredValues.{cuts, stored_value, uncut}
use Rattle.codegen.specs.Below.{convert, converted, of_conversion, Uint16, Uint8, width_of}

-- What holds of an expression where it holds of a conversion of it.

uncut_by : (P : TermTree → Type 0) → ((kind : Kind) (e : TermTree) → P (convert kind e) → P e) → (element : Kind)
    (e : TermTree) → P e → P (uncut element e)
uncut_by P of_operand element (convert kind e) holds =
    of_choice P (cuts element kind) (of_operand kind e holds) holds
uncut_by P of_operand element e holds = holds

stored_by : (P : TermTree → Type 0) → ((kind : Kind) (e : TermTree) → P (convert kind e) → P e) → (a : Allocation)
    (element : Kind) (e : TermTree) → P e → P (stored_value a element e)
stored_by P of_operand a element e holds =
    of_choice P a.immediates (uncut_by P of_operand element e holds) holds

-- so what is the same of a conversion is the same
pub stored_alike : {A : Type 0} (f : TermTree → A) → ((kind : Kind) (e : TermTree) → f (convert kind e) ≡ f e)
    → (a : Allocation) (element : Kind) (e : TermTree) → f (stored_value a element e) ≡ f e
stored_alike f same a element e =
    stored_by (λ other. f other ≡ f e) (λ kind other is. sym (same kind other) ∙ is) a element e refl

pub stored_height : (a : Allocation) (element : Kind) (e : TermTree)
    → height_of (stored_value a element e) ≡ height_of e
stored_height a element e = stored_alike height_of (λ kind operand. refl) a element e

pub stored_path : (a : Allocation) (element : Kind) (e : TermTree) (m : Values)
    → path_in m (stored_value a element e) ≡ path_in m e
stored_path a element e m = stored_alike (path_in m) (λ kind operand. refl) a element e

-- and there are no more nodes
pub stored_nodes : (a : Allocation) (element : Kind) (e : TermTree)
    → term_nodes (stored_value a element e) ≤ term_nodes e
stored_nodes a element e =
    stored_by (λ other. term_nodes other ≤ term_nodes e) (λ kind other few. omega (arith, few)) a element e
    (omega arith)

-- an expression with a type, of whose value an element's store makes that of another
pub record IsCutTo (types : Types) (element : Kind) (other e : TermTree) : Type 0 where
  pub word : WordType
  pub has_type : TermHasType types e word
  pub cut : (m : Values) → value_in m other < 2 ^ bits_of element
      → value_in m e % 256 ^ element_bytes element ≡ value_in m other

itself : {types : Types} {e : TermTree} {word : WordType} (element : Kind) → TermHasType types e word
    → IsCutTo types element e e
itself {e = e} {word = word} element has =
    record { word = word; has_type = has; cut = λ m fits. cut_number element (Some 0) (value_in m e) fits }

-- the store cuts a value as the conversion does
cut_alike : (element kind : Kind) → cuts element kind ≡ true → (v : ℕ)
    → v % 256 ^ element_bytes element ≡ converted (width_of kind) v
cut_alike Uint8 Uint8 is v = omega arith
cut_alike Uint16 Uint16 is v = omega arith
cut_alike element kind is v = absurd (false≢true is)

uncut_cut : {types : Types} {e : TermTree} {word : WordType} (element : Kind) → TermHasType types e word
    → IsCutTo types element e (uncut element e)
uncut_cut {types = types} element
    (of_conversion {kind = kind} {other = other} {operand = e} {label = label} has number) =
    cond_both (cuts element kind) e (convert kind e) (IsCutTo types element (convert kind e))
    (λ is. record {
      word = labelled other label;
      has_type = has;
      cut = λ m fits. cut_alike element kind is (value_in m e);
    })
    (λ is. itself element (of_conversion {kind = kind} {label = label} has number))
uncut_cut element has = itself element has

pub stored_cut : {types : Types} {e : TermTree} {word : WordType} (a : Allocation) (element : Kind)
    → TermHasType types e word → IsCutTo types element e (stored_value a element e)
stored_cut {types = types} {e = e} a element has =
    of_choice (IsCutTo types element e) a.immediates (uncut_cut element has) (itself element has)
