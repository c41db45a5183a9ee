-- The cases of the grammar make its programs and their beginnings.
use Rattle.std.proofs.Common.{List, [], ◌++◌, refl}
use Rattle.hepurita.specs.Below.{a_program, AreByCases, Begins, IsBeginning, Lexeme, procedures}
use Rattle.hepurita.proofs.grammar_laws_lemmas.BeginningEnds.{ends}
use Rattle.hepurita.proofs.grammar_laws_lemmas.BeginningLaws.{front_begins}
use Rattle.hepurita.proofs.grammar_laws_lemmas.CasesOfTrees.{program}
use Rattle.hepurita.proofs.grammar_laws_lemmas.TreesOfCases.{tree_of}

begins_beginning : (tokens : List Lexeme) → Begins procedures tokens → IsBeginning tokens
begins_beginning tokens begins =
    let w = ends begins in
    let p = tree_of (w.1 []) refl in
    (w.0 ++ [], _, a_program p.1)

pub by_cases : AreByCases
by_cases = record {
  programs = λ tokens. (λ w. (program w.1).whole, λ whole. let w = tree_of whole refl in (_, a_program w.1));
  beginnings = λ tokens. (
    λ w. front_begins procedures tokens w.0 (program w.2).whole,
    begins_beginning tokens,
  );
}
