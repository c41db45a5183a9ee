-- Where runs begin, and what is compared of them at the end.
use Rattle.std.proofs.Common.{◌≡◌, ℕ, zero, suc, ◌+◌, if◌then◌else◌, List, [], ◌∷◌, ◌++◌, length, map, take, drop}
use Rattle.std.proofs.Common.{Option, None, Some, IfSome, slice_get, refl, sym, ap, ap₂, ◌∙◌, subst, arith}
use Rattle.std.specs.Option.{option_map}
use Rattle.std.proofs.lemmas.Option.{none-some, same_Some}
use Rattle.branch_removal.specs.Below.{AreWithin, Arg, array_of, arrays_from, declaration_of, EqualWherePublic}
use Rattle.branch_removal.specs.Below.{FlatVariable, given, is_mutable, IsResult, Label, next_public, Param, Profile}
use Rattle.branch_removal.specs.Below.{Public, public_arrays, Secret, TermTree, Types, types_of, value_in, Values}
use Rattle.branch_removal.specs.Below.{WordType}
use Rattle.language.specs.arguments.Within.{words_of}
use Rattle.language.specs.declared.signature.Form.{Form}
use Rattle.language.specs.declared.signature.Form.TheVariants.{SingleWord, FixedArray, MutableArray}
use Rattle.intervals.proofs.Safe.{get_before}
use Rattle.branch_removal.proofs.Agreement.{Agree, what_is_public}
use Rattle.branch_removal.proofs.Scopes.{AreAmong}
use Rattle.branch_removal.proofs.Values.{public_suited}

-- The parameters are the first variables.

pub parameters_among : (profile : Profile) (parameters : List Param) (declared : List FlatVariable)
    → take (length parameters) declared ≡ map declaration_of parameters
    → AreAmong (types_of profile (map declaration_of parameters)) (types_of profile declared)
parameters_among profile parameters declared first = record {
  profile = refl;
  at = λ x d there. get_before (length parameters) declared x d
      (ap (λ (ds : List FlatVariable). slice_get ds x) first ∙ there);
}

pub parameter_at : (parameters : List Param) (k : ℕ) (p : Param) → slice_get parameters k ≡ Some p
    → slice_get (map declaration_of parameters) k ≡ Some (declaration_of p)
parameter_at [] k p there = absurd (none-some p there)
parameter_at (q ∷ parameters) zero p there = ap (λ r. Some (declaration_of r)) (same_Some q p there)
parameter_at (q ∷ parameters) (suc k) p there = parameter_at parameters k p there

-- arguments that agree are given to both
pub given_in_step : (profile : Profile) (parameters : List Param) (declared : List FlatVariable)
    (one other : List Arg) → take (length parameters) declared ≡ map declaration_of parameters
    → AreWithin parameters one → AreWithin parameters other → EqualWherePublic parameters one other
    → Agree what_is_public (types_of profile declared) (given declared one) (given declared other)
given_in_step profile [] declared [] [] first a b equal x d there public = refl
given_in_step profile [] declared [] (w ∷ other) first a b equal x d there public = absurd b
given_in_step profile [] declared (v ∷ one) other first a b equal x d there public = absurd a
given_in_step profile (p ∷ ps) declared [] other first a b equal x d there public = absurd a
given_in_step profile (p ∷ ps) declared (v ∷ one) [] first a b equal x d there public = absurd b
given_in_step profile (p ∷ ps) [] (v ∷ one) (w ∷ other) first a b equal x d there public = refl
given_in_step profile (p ∷ ps) (e ∷ declared) (v ∷ one) (w ∷ other) first a b equal zero d there public =
    let same : e ≡ declaration_of p = cc in
    ap words_of (equal.0 (ap (λ (f : FlatVariable). f.word.label) (sym same ∙ same_Some e d there) ∙ public))
given_in_step profile (p ∷ ps) (e ∷ declared) (v ∷ one) (w ∷ other) first a b equal (suc x) d there public =
    let rest : take (length ps) declared ≡ map declaration_of ps = cc in
    given_in_step profile ps declared one other rest a.1 b.1 equal.1 x d there public

-- Results.

-- the arrays of both are the same where the parameters hold the same
same_arrays : (parameters : List Param) (x : ℕ) (m n : Values)
    → ((k : ℕ) (p : Param) → slice_get parameters k ≡ Some p → m (x + k) ≡ n (x + k))
    → arrays_from x parameters m ≡ arrays_from x parameters n
same_arrays [] x m n same = refl
same_arrays (p ∷ ps) x m n same =
    let here : m x ≡ n x = subst (λ y. m y ≡ n y) (omega arith) (same 0 p refl) in
    ap₂ (λ (front back : List (List ℕ)). front ++ back) (ap (array_of p.form) here)
    (same_arrays ps (x + 1) m n (λ k q there. subst (λ y. m y ≡ n y) (omega arith) (same (suc k) q there)))

-- the next array, where it is public
next_arrays : (form : Form) (label : Label) (here there : List ℕ) (ps : List Param) (ones others : List (List ℕ))
    → (label ≡ Public → here ≡ there)
    → public_arrays ps ones ≡ public_arrays ps others
    → (if is_mutable form then next_public label (array_of form here ++ ones)
    ++ public_arrays ps (drop 1 (array_of form here ++ ones))
    else public_arrays ps (array_of form here ++ ones))
    ≡ (if is_mutable form then next_public label (array_of form there ++ others)
    ++ public_arrays ps (drop 1 (array_of form there ++ others))
    else public_arrays ps (array_of form there ++ others))
next_arrays SingleWord label here there ps ones others equal more = more
next_arrays FixedArray label here there ps ones others equal more = more
next_arrays MutableArray Public here there ps ones others equal more =
    ap₂ (λ (v : List ℕ) (vs : List (List ℕ)). v ∷ vs) (equal refl) more
next_arrays MutableArray Secret here there ps ones others equal more = more

same_public_arrays : (parameters : List Param) (x : ℕ) (m n : Values)
    → ((k : ℕ) (p : Param) → slice_get parameters k ≡ Some p → p.label ≡ Public → m (x + k) ≡ n (x + k))
    → public_arrays parameters (arrays_from x parameters m) ≡ public_arrays parameters (arrays_from x parameters n)
same_public_arrays [] x m n same = refl
same_public_arrays (p ∷ ps) x m n same =
    next_arrays p.form p.label (m x) (n x) ps (arrays_from (x + 1) ps m) (arrays_from (x + 1) ps n)
    (λ public. subst (λ y. m y ≡ n y) (omega arith) (same 0 p refl public))
    (same_public_arrays ps (x + 1) m n (λ k q there public.
    subst (λ y. m y ≡ n y) (omega arith) (same (suc k) q there public)))

-- from the first parameter on
pub all_arrays : (parameters : List Param) (m n : Values)
    → ((k : ℕ) (p : Param) → slice_get parameters k ≡ Some p → m k ≡ n k)
    → arrays_from 0 parameters m ≡ arrays_from 0 parameters n
all_arrays parameters m n same =
    same_arrays parameters 0 m n (λ k p there. subst (λ y. m y ≡ n y) (omega arith) (same k p there))

pub all_public_arrays : (parameters : List Param) (m n : Values)
    → ((k : ℕ) (p : Param) → slice_get parameters k ≡ Some p → p.label ≡ Public → m k ≡ n k)
    → public_arrays parameters (arrays_from 0 parameters m) ≡ public_arrays parameters (arrays_from 0 parameters n)
all_public_arrays parameters m n same =
    same_public_arrays parameters 0 m n (λ k p there public.
    subst (λ y. m y ≡ n y) (omega arith) (same k p there public))

-- a result that is public, where there is one
pub same_return : (types : Types) (m n : Values) → Agree what_is_public types m n
    → (returned : Option WordType) (value : Option TermTree) → IsResult types returned value
    → IfSome returned (λ (word : WordType). word.label ≡ Public)
    → option_map (value_in m) value ≡ option_map (value_in n) value
same_return types m n agree None None typed public = refl
same_return types m n agree (Some word) (Some value) typed public =
    ap Some (public_suited types m n agree word value typed public)
same_return types m n agree returned value typed public = absurd typed
