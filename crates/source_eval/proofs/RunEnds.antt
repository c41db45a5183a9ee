-- What continued runs come to; an expression's value by those of its operands.
use Rattle.std.proofs.Common.{◌≡◌, ◌≢◌, ℕ, List, [], ◌∷◌, refl, sym, ap, ◌∙◌}
use Rattle.source_eval.specs.Below.{andthen, applied, binary, continued, convert, element, ended, Ending, ExprTree}
use Rattle.source_eval.specs.Below.{faults, given, gives, name, number, operands, Place, prefix, rotate, Run, select}
use Rattle.source_eval.specs.Below.{State, tick, truth, value, values, Word}

pub mismatch : {A : Type 0} (a : A) (place : Place) → gives a ≢ faults place
mismatch a place h = cc

pub then-gives : {A B : Type 0} (r : Run A) (next : A → Run B) (a : A) → r.ends ≡ gives a
    → (andthen r next).ends ≡ (next a).ends
unfolding andthen
then-gives r next a h = ap (λ ending. (continued r.nodes r.bodies ending next).ends) h

pub then-faults : {A B : Type 0} (r : Run A) (next : A → Run B) (place : Place) → r.ends ≡ faults place
    → (andthen r next).ends ≡ faults place
unfolding andthen
then-faults r next place h = ap (λ ending. (continued r.nodes r.bodies ending next).ends) h

-- what is known of a run's end is known of the whole
pub then-either : {A B : Type 0} (D : Ending A → Type 0) (P : Ending B → Type 0) (r : Run A) (next : A → Run B)
    → D r.ends
    → ((a : A) → D (gives a) → P (next a).ends) → ((place : Place) → D (faults place) → P (faults place))
    → P (andthen r next).ends
unfolding andthen
then-either {A} {B} D P r next d well badly = by_end r.ends d
  where
    by_end : (ending : Ending A) → D ending → P (continued r.nodes r.bodies ending next).ends
    by_end (gives a) h = well a h
    by_end (faults place) h = badly place h

-- a first part and what it leads to fault as one
pub first-faults : {A B C : Type 0} (r : Run A) (more : A → Run B) (next : A → B → Run C) (place : Place)
    → (andthen r more).ends ≡ faults place → (andthen r (λ a. andthen (more a) (next a))).ends ≡ faults place
unfolding andthen
first-faults {A} {B} {C} r more next place = by_end r.ends
  where
    by_end : (ending : Ending A) → (continued r.nodes r.bodies ending more).ends ≡ faults place
        → (continued r.nodes r.bodies ending (λ a. andthen (more a) (next a))).ends ≡ faults place
    by_end (gives a) h = then-faults (more a) (next a) place h
    by_end (faults other) h = cc

-- and where they give something, the first part gave something
pub first-gives : {A B C : Type 0} (r : Run A) (more : A → Run B) (next : A → B → Run C) (b : B) (ending : Ending C)
    → (andthen r more).ends ≡ gives b
    → ((a : A) → (next a b).ends ≡ ending) → (andthen r (λ a. andthen (more a) (next a))).ends ≡ ending
unfolding andthen
first-gives {A} {B} {C} r more next b ending h then = by_end r.ends h
  where
    by_end : (first : Ending A) → (continued r.nodes r.bodies first more).ends ≡ gives b
        → (continued r.nodes r.bodies first (λ a. andthen (more a) (next a))).ends ≡ ending
    by_end (gives a) is = then-gives (more a) (next a) b is ∙ then a
    by_end (faults place) is = absurd (mismatch b place (sym is))

-- An expression's value.

abbrev ending_at : {A : Type 0} → ℕ → ℕ → Ending A → Run A
ending_at nodes bodies ending = record { nodes = nodes; bodies = bodies; ends = ending }

module _ (f : List Word → Ending Word) where
  abbrev by_list : Run (List Word) → Run Word
  by_list r = andthen r (λ vs. ended (f vs))

  abbrev put : Run Word → Run (List Word) → Run (List Word)
  put r rest = andthen r (λ v. andthen rest (λ vs. given (v ∷ vs)))

  one : (m n : ℕ) (x : Ending Word) → (andthen (ending_at m n x) (λ a. ended (f (a ∷ [])))).ends
      ≡ (by_list (put (ending_at m n x) (given []))).ends
  unfolding andthen
  one m n (gives a) = refl
  one m n (faults place) = refl

  two : (m n p q : ℕ) (x y : Ending Word)
      → (andthen (ending_at m n x) (λ a. andthen (ending_at p q y) (λ b. ended (f (a ∷ b ∷ []))))).ends
      ≡ (by_list (put (ending_at m n x) (put (ending_at p q y) (given [])))).ends
  unfolding andthen
  two m n p q (gives a) (gives b) = refl
  two m n p q (gives a) (faults place) = refl
  two m n p q (faults place) y = refl

  three : (m n p q k l : ℕ) (x y z : Ending Word)
      → (andthen (ending_at m n x)
      (λ a. andthen (ending_at p q y) (λ b. andthen (ending_at k l z) (λ c. ended (f (a ∷ b ∷ c ∷ [])))))).ends
      ≡ (by_list (put (ending_at m n x) (put (ending_at p q y) (put (ending_at k l z) (given []))))).ends
  unfolding andthen
  three m n p q k l (gives a) (gives b) (gives c) = refl
  three m n p q k l (gives a) (gives b) (faults place) = refl
  three m n p q k l (gives a) (faults place) z = refl
  three m n p q k l (faults place) y z = refl

  by_none : f [] ≡ (by_list (given [])).ends
  unfolding andthen
  by_none = refl

  by_one : (r : Run Word) → (andthen r (λ a. ended (f (a ∷ [])))).ends ≡ (by_list (put r (given []))).ends
  by_one r = one r.nodes r.bodies r.ends

  by_two : (r s : Run Word) → (andthen r (λ a. andthen s (λ b. ended (f (a ∷ b ∷ []))))).ends
      ≡ (by_list (put r (put s (given [])))).ends
  by_two r s = two r.nodes r.bodies s.nodes s.bodies r.ends s.ends

  by_three : (r s t : Run Word) → (andthen r (λ a. andthen s (λ b. andthen t (λ c. ended (f (a ∷ b ∷ c ∷ [])))))).ends
      ≡ (by_list (put r (put s (put t (given []))))).ends
  by_three r s t = three r.nodes r.bodies s.nodes s.bodies t.nodes t.bodies r.ends s.ends t.ends

-- a node's value is what it makes of its operands' values
pub value-by-operands : (s : State) (e : ExprTree)
    → (value s e).ends ≡ (andthen (values s (operands e)) (λ vs. ended (applied s e vs))).ends
unfolding tick
value-by-operands s (number place v kind) = by_none (applied s (number place v kind))
value-by-operands s (truth place v) = by_none (applied s (truth place v))
value-by-operands s (name place text) = by_none (applied s (name place text))
value-by-operands s (prefix place operator a) = by_one (applied s (prefix place operator a)) (value s a)
value-by-operands s (binary place operator a b) =
    by_two (applied s (binary place operator a b)) (value s a) (value s b)
value-by-operands s (rotate place a amount) = by_one (applied s (rotate place a amount)) (value s a)
value-by-operands s (convert place kind a) = by_one (applied s (convert place kind a)) (value s a)
value-by-operands s (select place a b c) =
    by_three (applied s (select place a b c)) (value s a) (value s b) (value s c)
value-by-operands s (element place target text a) = by_one (applied s (element place target text a)) (value s a)
