-- How the logic stores a body with numbered variables.
use Rattle.std.proofs.Common.{◌≡◌, ℕ, List, [], ◌∷◌, Option, refl, ap}
use Rattle.std.specs.Coded.{Coded, code_by, coded×, coded_ℕ, coded_bool, coded_list, coded_option}
use base.Stored.{Gv, gnil, gnum, gcons}
use Rattle.inline.specs.contracts.flat.FlatVariable as flat_variable
use Rattle.inline.specs.contracts.flat.Stretch as stretch
use Rattle.inline.specs.declared.flat.FlatVariable.{FlatVariable}
use Rattle.inline.specs.declared.flat.Stretch.{Stretch}
use Rattle.inline.specs.Flat.{TermTree, number, truth, variable, prefix, binary, rotate, convert, select, element}
use Rattle.inline.specs.Flat.{FlatTree, declare, array, assign, put, hold, skip, branch, loop, FlatBlock, nothing}
use Rattle.inline.specs.Flat.{first, FlatProgram}
use Rattle.language.specs.contracts.signature.Param as param
use Rattle.language.specs.contracts.signature.Kind as kind
use Rattle.language.specs.contracts.signature.Label as label
use Rattle.language.specs.contracts.operators.BinaryOperator as operator
use Rattle.language.specs.contracts.operators.PrefixOperator as prefix_operator
use Rattle.language.specs.contracts.typing.WordType as word
use Rattle.word.specs.contracts.place.Place as place
use Rattle.word.specs.contracts.profile.Profile as profile
use Rattle.word.specs.contracts.width.Width as width
use Rattle.inline.specs.Below.{Param, Place, Profile, WordType}

abbrev head : Gv → Gv
head gnil = gnil
head (gnum n) = gnil
head (gcons a b) = a

abbrev pub term_code : TermTree → Gv
term_code (number n k) = gcons (gnum 0) (gcons (coded_ℕ.code n) (kind.the_row.coded.code k))
term_code (truth b) = gcons (gnum 1) (coded_bool.code b)
term_code (variable x) = gcons (gnum 2) (coded_ℕ.code x)
term_code (prefix o w e) =
    gcons (gnum 3) (gcons (prefix_operator.the_row.coded.code o) (gcons (width.the_row.coded.code w) (term_code e)))
term_code (binary q o w l r) = gcons (gnum 4)
    (gcons (place.the_row.coded.code q)
    (gcons (operator.the_row.coded.code o) (gcons (width.the_row.coded.code w) (gcons (term_code l) (term_code r)))))
term_code (rotate w e n) = gcons (gnum 5) (gcons (width.the_row.coded.code w) (gcons (term_code e) (coded_ℕ.code n)))
term_code (convert k e) = gcons (gnum 6) (gcons (kind.the_row.coded.code k) (term_code e))
term_code (select c a b) = gcons (gnum 7) (gcons (term_code c) (gcons (term_code a) (term_code b)))
term_code (element q z u d) = gcons (gnum 8)
    (gcons (place.the_row.coded.code q) (gcons (coded_ℕ.code z) (gcons (coded_ℕ.code u) (term_code d))))

pub term_inj : (x y : TermTree) → term_code x ≡ term_code y → x ≡ y
term_inj (number n k) (number n' k') p = λ i. number (coded_ℕ.inj n n' (cc) i) (kind.the_row.coded.inj k k' (cc) i)
term_inj (truth b) (truth b') p = λ i. truth (coded_bool.inj b b' (cc) i)
term_inj (variable x) (variable x') p = λ i. variable (coded_ℕ.inj x x' (cc) i)
term_inj (prefix o w e) (prefix o' w' e') p =
    λ i. prefix (prefix_operator.the_row.coded.inj o o' (cc) i) (width.the_row.coded.inj w w' (cc) i)
    (term_inj e e' (cc) i)
term_inj (binary q o w l r) (binary q' o' w' l' r') p =
    λ i. binary (place.the_row.coded.inj q q' (cc) i) (operator.the_row.coded.inj o o' (cc) i)
    (width.the_row.coded.inj w w' (cc) i) (term_inj l l' (cc) i) (term_inj r r' (cc) i)
term_inj (rotate w e n) (rotate w' e' n') p =
    λ i. rotate (width.the_row.coded.inj w w' (cc) i) (term_inj e e' (cc) i) (coded_ℕ.inj n n' (cc) i)
term_inj (convert k e) (convert k' e') p =
    λ i. convert (kind.the_row.coded.inj k k' (cc) i) (term_inj e e' (cc) i)
term_inj (select c a b) (select c' a' b') p =
    λ i. select (term_inj c c' (cc) i) (term_inj a a' (cc) i) (term_inj b b' (cc) i)
term_inj (element q z u d) (element q' z' u' d') p =
    λ i. element (place.the_row.coded.inj q q' (cc) i) (coded_ℕ.inj z z' (cc) i) (coded_ℕ.inj u u' (cc) i)
    (term_inj d d' (cc) i)
term_inj (element q z u d) (rotate w e n) p = let tags : gnum 8 ≡ gnum 5 = ap head p in cc
term_inj x y p = cc

abbrev pub coded_term : Coded TermTree
coded_term = record { code = term_code; inj = term_inj }

abbrev pub terms_code : List TermTree → Gv
terms_code [] = gnil
terms_code (e ∷ es) = gcons (term_code e) (terms_code es)

pub terms_inj : (x y : List TermTree) → terms_code x ≡ terms_code y → x ≡ y
terms_inj [] [] p = refl
terms_inj (e ∷ es) (e' ∷ es') p = λ i. term_inj e e' (cc) i ∷ terms_inj es es' (cc) i
terms_inj x y p = cc

abbrev mutual
  pub tree_code : FlatTree → Gv
  tree_code (declare x w m v) = gcons (gnum 0)
      (gcons (coded_ℕ.code x) (gcons (word.the_row.coded.code w) (gcons (coded_bool.code m) (term_code v))))
  tree_code (array x w m n es) = gcons (gnum 1)
      (gcons (coded_ℕ.code x) (gcons (word.the_row.coded.code w)
      (gcons (coded_bool.code m) (gcons (coded_ℕ.code n) (terms_code es)))))
  tree_code (assign x v) = gcons (gnum 2) (gcons (coded_ℕ.code x) (term_code v))
  tree_code (put q x n e v) = gcons (gnum 3)
      (gcons (place.the_row.coded.code q)
      (gcons (coded_ℕ.code x) (gcons (coded_ℕ.code n) (gcons (term_code e) (term_code v)))))
  tree_code (branch l c a b) = gcons (gnum 4)
      (gcons (label.the_row.coded.code l) (gcons (term_code c) (gcons (block_code a) (block_code b))))
  tree_code (loop x c d b) =
      gcons (gnum 5) (gcons (coded_ℕ.code x) (gcons (term_code c) (gcons (term_code d) (block_code b))))
  tree_code (hold x q n e) = gcons (gnum 6)
      (gcons (coded_ℕ.code x) (gcons (place.the_row.coded.code q) (gcons (coded_ℕ.code n) (term_code e))))
  tree_code skip = gcons (gnum 7) gnil

  pub block_code : FlatBlock → Gv
  block_code nothing = gnil
  block_code (first s rest) = gcons (tree_code s) (block_code rest)

mutual
  pub tree_inj : (x y : FlatTree) → tree_code x ≡ tree_code y → x ≡ y
  tree_inj (declare x w m v) (declare x' w' m' v') p =
      λ i. declare (coded_ℕ.inj x x' (cc) i) (word.the_row.coded.inj w w' (cc) i) (coded_bool.inj m m' (cc) i)
      (term_inj v v' (cc) i)
  tree_inj (array x w m n es) (array x' w' m' n' es') p =
      λ i. array (coded_ℕ.inj x x' (cc) i) (word.the_row.coded.inj w w' (cc) i) (coded_bool.inj m m' (cc) i)
      (coded_ℕ.inj n n' (cc) i) (terms_inj es es' (cc) i)
  tree_inj (assign x v) (assign x' v') p = λ i. assign (coded_ℕ.inj x x' (cc) i) (term_inj v v' (cc) i)
  tree_inj (put q x n e v) (put q' x' n' e' v') p =
      λ i. put (place.the_row.coded.inj q q' (cc) i) (coded_ℕ.inj x x' (cc) i) (coded_ℕ.inj n n' (cc) i)
      (term_inj e e' (cc) i) (term_inj v v' (cc) i)
  tree_inj (hold x q n e) (hold x' q' n' e') p =
      λ i. hold (coded_ℕ.inj x x' (cc) i) (place.the_row.coded.inj q q' (cc) i) (coded_ℕ.inj n n' (cc) i)
      (term_inj e e' (cc) i)
  tree_inj skip skip p = refl
  tree_inj (branch l c a b) (branch l' c' a' b') p =
      λ i. branch (label.the_row.coded.inj l l' (cc) i) (term_inj c c' (cc) i) (block_inj a a' (cc) i)
      (block_inj b b' (cc) i)
  tree_inj (loop x c d b) (loop x' c' d' b') p =
      λ i. loop (coded_ℕ.inj x x' (cc) i) (term_inj c c' (cc) i) (term_inj d d' (cc) i) (block_inj b b' (cc) i)
  tree_inj x y p = cc

  pub block_inj : (x y : FlatBlock) → block_code x ≡ block_code y → x ≡ y
  block_inj nothing nothing p = refl
  block_inj (first s rest) (first s' rest') p = λ i. first (tree_inj s s' (cc) i) (block_inj rest rest' (cc) i)
  block_inj x y p = cc

abbrev pub coded_block : Coded FlatBlock
coded_block = record { code = block_code; inj = block_inj }

-- a program is stored as the tuple of its parts
abbrev pub coded_program : Coded FlatProgram
coded_program =
    code_by (Profile
    × (Place × (List Param × (Option WordType × (ℕ × (List FlatVariable
    × (FlatBlock × (List Stretch × (Option TermTree × Option Place)))))))))
    (coded× profile.the_row.coded (coded× place.the_row.coded
    (coded× (coded_list param.the_row.coded) (coded× (coded_option word.the_row.coded)
    (coded× coded_ℕ (coded× (coded_list flat_variable.the_row.coded)
    (coded× coded_block (coded× (coded_list stretch.the_row.coded)
    (coded× (coded_option coded_term) (coded_option place.the_row.coded))))))))))
    (λ p. (
      p.profile,
      (
        p.place,
        (
          p.parameters,
          (
            p.returned,
            (
              p.nodes,
              (
                p.declared,
                (p.body, (p.stretches, (p.value, p.return_place))),
              ),
            ),
          ),
        ),
      ),
    ))
    (λ t. record {
      profile = t.0;
      place = t.1.0;
      parameters = t.1.1.0;
      returned = t.1.1.1.0;
      nodes = t.1.1.1.1.0;
      declared = t.1.1.1.1.1.0;
      body = t.1.1.1.1.1.1.0;
      stretches = t.1.1.1.1.1.1.1.0;
      value = t.1.1.1.1.1.1.1.1.0;
      return_place = t.1.1.1.1.1.1.1.1.1;
    })
    (λ _. refl)
