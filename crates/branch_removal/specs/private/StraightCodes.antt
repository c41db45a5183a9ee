-- How the logic stores straight code.
use Rattle.std.proofs.Common.{◌≡◌, ℕ, List, Option, refl}
use Rattle.std.specs.Coded.{Coded, code_by, coded×, coded_ℕ, coded_list, coded_option}
use base.Stored.{Gv, gnil, gnum, gcons}
use Rattle.inline.specs.Codes.{coded_term}
use Rattle.inline.specs.contracts.flat.FlatVariable as variable
use Rattle.branch_removal.specs.Below.{FlatVariable, Param, Profile, TermTree, WordType}
use Rattle.language.specs.contracts.signature.Param as param
use Rattle.language.specs.contracts.typing.WordType as word
use Rattle.word.specs.contracts.place.Place as place
use Rattle.word.specs.contracts.profile.Profile as profile
use Rattle.branch_removal.specs.Straight.{StraightTree, set, array, put, take, branch, repeats}
use Rattle.branch_removal.specs.Straight.{StraightBlock, nothing, first, StraightProgram}

abbrev terms : Coded (List TermTree)
terms = coded_list coded_term

abbrev control_within : Coded (Option ℕ)
control_within = coded_option coded_ℕ

abbrev mutual
  pub tree_code : StraightTree → Gv
  tree_code (set w x v) =
      gcons (gnum 0) (gcons (control_within.code w) (gcons (coded_ℕ.code x) (coded_term.code v)))
  tree_code (array x n vs) = gcons (gnum 1) (gcons (coded_ℕ.code x) (gcons (coded_ℕ.code n) (terms.code vs)))
  tree_code (put w p x n i v) =
      gcons (gnum 2)
      (gcons (control_within.code w)
      (gcons (place.the_row.coded.code p)
      (gcons (coded_ℕ.code x) (gcons (coded_ℕ.code n) (gcons (coded_term.code i) (coded_term.code v))))))
  tree_code (take c w e) = gcons (gnum 3) (gcons (coded_ℕ.code c) (gcons (control_within.code w) (coded_term.code e)))
  tree_code (branch e a b) = gcons (gnum 4) (gcons (coded_term.code e) (gcons (block_code a) (block_code b)))
  tree_code (repeats x l h b) =
      gcons (gnum 5) (gcons (coded_ℕ.code x) (gcons (coded_term.code l) (gcons (coded_term.code h) (block_code b))))

  pub block_code : StraightBlock → Gv
  block_code nothing = gnil
  block_code (first s rest) = gcons (tree_code s) (block_code rest)

mutual
  pub tree_inj : (x y : StraightTree) → tree_code x ≡ tree_code y → x ≡ y
  tree_inj (set w x v) (set w' x' v') p =
      λ i. set (control_within.inj w w' (cc) i) (coded_ℕ.inj x x' (cc) i) (coded_term.inj v v' (cc) i)
  tree_inj (array x n vs) (array x' n' vs') p =
      λ i. array (coded_ℕ.inj x x' (cc) i) (coded_ℕ.inj n n' (cc) i) (terms.inj vs vs' (cc) i)
  tree_inj (put w q x n j v) (put w' q' x' n' j' v') p =
      λ i. put (control_within.inj w w' (cc) i) (place.the_row.coded.inj q q' (cc) i) (coded_ℕ.inj x x' (cc) i)
      (coded_ℕ.inj n n' (cc) i) (coded_term.inj j j' (cc) i) (coded_term.inj v v' (cc) i)
  tree_inj (take c w e) (take c' w' e') p =
      λ i. take (coded_ℕ.inj c c' (cc) i) (control_within.inj w w' (cc) i) (coded_term.inj e e' (cc) i)
  tree_inj (branch e a b) (branch e' a' b') p =
      λ i. branch (coded_term.inj e e' (cc) i) (block_inj a a' (cc) i) (block_inj b b' (cc) i)
  tree_inj (repeats x l h b) (repeats x' l' h' b') p =
      λ i. repeats (coded_ℕ.inj x x' (cc) i) (coded_term.inj l l' (cc) i) (coded_term.inj h h' (cc) i)
      (block_inj b b' (cc) i)
  tree_inj x y p = cc

  pub block_inj : (x y : StraightBlock) → block_code x ≡ block_code y → x ≡ y
  block_inj nothing nothing p = refl
  block_inj (first s rest) (first s' rest') p = λ i. first (tree_inj s s' (cc) i) (block_inj rest rest' (cc) i)
  block_inj x y p = cc

abbrev pub coded_block : Coded StraightBlock
coded_block = record { code = block_code; inj = block_inj }

-- a program is stored as the tuple of its parts
abbrev pub coded_straight : Coded StraightProgram
coded_straight =
    code_by (Profile
    × (List Param
    × (Option WordType
    × (ℕ × (ℕ × (List ℕ × (List FlatVariable × (ℕ × (StraightBlock × Option TermTree)))))))))
    (coded× profile.the_row.coded
    (coded× (coded_list param.the_row.coded)
    (coded× (coded_option word.the_row.coded)
    (coded× coded_ℕ
    (coded× coded_ℕ (coded× (coded_list coded_ℕ)
    (coded× (coded_list variable.the_row.coded)
    (coded× coded_ℕ (coded× coded_block (coded_option coded_term))))))))))
    (λ p. (
      p.profile,
      (
        p.parameters,
        (p.returned, (p.nodes, (p.work, (p.iterations, (p.declared, (p.controls, (p.body, p.value))))))),
      ),
    ))
    (λ t. record {
      profile = t.0;
      parameters = t.1.0;
      returned = t.1.1.0;
      nodes = t.1.1.1.0;
      work = t.1.1.1.1.0;
      iterations = t.1.1.1.1.1.0;
      declared = t.1.1.1.1.1.1.0;
      controls = t.1.1.1.1.1.1.1.0;
      body = t.1.1.1.1.1.1.1.1.0;
      value = t.1.1.1.1.1.1.1.1.1;
    })
    (λ _. refl)
