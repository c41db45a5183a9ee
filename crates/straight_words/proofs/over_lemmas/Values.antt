-- Expressions that are alike: one has the other's value, and its path is fine where the other's is.
use Rattle.std.proofs.Common.{◌≡◌, ℕ, List, [], ◌∷◌, ◌++◌, map, Option}
use Rattle.std.proofs.Common.{option_map, sym, ap₂, subst}
use Rattle.straight_words.specs.Below.{AreFine, binary, BinaryOperator, convert, element, elements, indexed, Kind}
use Rattle.straight_words.specs.Below.{marks_of, Path, path_in, path_in_all, path_of_result, Place, prefix}
use Rattle.straight_words.specs.Below.{PrefixOperator, rotate, select, TermTree, value_in, Values, Width}
use Rattle.branch_removal.proofs.Sequences.{fine_both, fine_front, fine_back, fine_alone}

module _ (most : List ℕ) where
  -- a path is fine where another one is
  pub record IsNoWorse (p q : Path) : Type 0 where
    pub fine : AreFine most p → AreFine most q

  pub same_path : {p : Path} → IsNoWorse p p
  same_path = record { fine = λ fine. fine }

  pub both : {p q r t : Path} → IsNoWorse p r → IsNoWorse q t → IsNoWorse (p ++ q) (r ++ t)
  both {p} {q} {r} {t} one other = record {
    fine = λ fine. fine_both most r t (one.fine (fine_front most p q fine)) (other.fine (fine_back most p q fine));
  }

  pub through : {p q r : Path} → IsNoWorse p q → IsNoWorse q r → IsNoWorse p r
  through one other = record { fine = λ fine. other.fine (one.fine fine) }

  -- one statement, and nothing behind it
  pub alone : {p q : Path} → IsNoWorse p q → IsNoWorse p (q ++ [])
  alone {q = q} one = record { fine = λ fine. fine_alone most q (one.fine fine) }

  -- at the same index
  pub at_index : {p q : Path} {i j : ℕ} (place : Place) (size : ℕ) → j ≡ i → IsNoWorse p q
      → IsNoWorse (indexed place size i ∷ p) (indexed place size j ∷ q)
  at_index place size same one = record { fine = λ fine. (rw same fine.0, one.fine fine.1) }

-- an expression has the value of another one, and its path is fine where that one's is
pub record IsAlike (most : List ℕ) (m k : Values) (e f : TermTree) : Type 0 where
  pub value : value_in k f ≡ value_in m e
  pub path : IsNoWorse most (path_in m e) (path_in k f)

-- so do first values
pub record AreAllAlike (most : List ℕ) (m k : Values) (es fs : List TermTree) : Type 0 where
  pub values : map (value_in k) fs ≡ map (value_in m) es
  pub filled : (size : ℕ) → elements k size fs ≡ elements m size es
  pub path : IsNoWorse most (path_in_all m es) (path_in_all k fs)

-- and a result
pub record IsResultAlike (most : List ℕ) (m k : Values) (whole other : Option TermTree) : Type 0 where
  pub value : option_map (value_in k) other ≡ option_map (value_in m) whole
  pub path : IsNoWorse most (path_of_result m whole) (path_of_result k other)

-- Nodes of which the operands are alike.

module _ {most : List ℕ} {m k : Values} where
  pub prefix_alike : {operator : PrefixOperator} {width : Width} {e f : TermTree} → IsAlike most m k e f
      → IsAlike most m k (prefix operator width e) (prefix operator width f)
  prefix_alike a = record { value = rw a.value; path = a.path }

  pub binary_alike : {place : Place} {operator : BinaryOperator} {width : Width} {left right l r : TermTree}
      → IsAlike most m k left l → IsAlike most m k right r
      → IsAlike most m k (binary place operator width left right) (binary place operator width l r)
  binary_alike {place} {operator} a b = record {
    value = rw (a.value, b.value);
    path = both most (both most a.path b.path)
        (subst (IsNoWorse most _) (sym (ap₂ (marks_of place operator) a.value b.value)) (same_path most));
  }

  pub rotate_alike : {width : Width} {e f : TermTree} {amount : ℕ} → IsAlike most m k e f
      → IsAlike most m k (rotate width e amount) (rotate width f amount)
  rotate_alike a = record { value = rw a.value; path = a.path }

  pub convert_alike : {kind : Kind} {e f : TermTree} → IsAlike most m k e f
      → IsAlike most m k (convert kind e) (convert kind f)
  convert_alike a = record { value = rw a.value; path = a.path }

  pub select_alike : {condition accepted otherwise c a o : TermTree} → IsAlike most m k condition c
      → IsAlike most m k accepted a → IsAlike most m k otherwise o
      → IsAlike most m k (select condition accepted otherwise) (select c a o)
  select_alike chooser one other = record {
    value = rw (chooser.value, one.value, other.value);
    path = both most (both most chooser.path one.path) other.path;
  }

  pub element_alike : {place : Place} {x y size : ℕ} {index i : TermTree} → k y ≡ m x → IsAlike most m k index i
      → IsAlike most m k (element place x size index) (element place y size i)
  element_alike {place} {size = size} same a = record {
    value = rw (same, a.value);
    path = both most a.path (at_index most place size a.value (same_path most));
  }

  pub all_values_alike : {e f : TermTree} {es fs : List TermTree} → IsAlike most m k e f → AreAllAlike most m k es fs
      → AreAllAlike most m k (e ∷ es) (f ∷ fs)
  all_values_alike a b =
      let values = ap₂ (λ (v : ℕ) (vs : List ℕ). v ∷ vs) a.value b.values in
      record { values = values; filled = λ size. values; path = both most a.path b.path }
