use Rattle.std.proofs.Common.{◌≡◌, ◌<◌, length, map, take, Some, None, Ok, Err, refl, ap, ◌∙◌, sym, arith, rules}
use Rattle.std.proofs.Math.Seq.{take-length}
use Rattle.std.specs.Option.{option_map}
use Rattle.image_reports.proofs.certificates_lemmas.Below.{fault_from-left, fault_from-next, fault_by-None, map-more, fault_by-map}
use Rattle.image_reports.specs.Below.{Memory, words_of}
use Rattle.image_reports.specs.certificates.Texts.{numbers_given, rule_of_given_text, fault_of_given_texts}
use Rattle.image_reports.proofs.certificates_lemmas.ReadLemmas.{faultless-more, fault_iff-ok, fault_iff-memory, fault_iff-fault}
use Rattle.image_reports.proofs.certificates.reading.read_given.Goals as goal

pub returns-in-Some-clause-fault : goal.returns-in-Some-clause-fault
returns-in-Some-clause-fault c = λ fault.
    fault_iff-fault (Err c.from.result) c.in-Some.fault _ fault (ap Err c.from.ensures)
    (fault_by-map rule_of_given_text (λ text. text.now) c.args.params.now c.args.texts.now
    ∙ sym c.first_fault.ensures ∙ c.in-Some.is)

pub given_by-requires : goal.given_by-requires
given_by-requires c =
    let params = c.args.params.now in
    let texts = c.args.texts.now in
    let none = fault_by-None (λ param text. rule_of_given_text param text.now) params texts (sym c.first_fault.ensures
    ∙ c.in_default.is) in
    (fault_from-left (λ param text. rule_of_given_text param text.now) c.loop-index.index params texts _ _
    c.loop-index-test.true (omega (arith, none.0)) c.loop-index.invariant.left).0

pub returns-in_err-given_by-clause-fault : goal.returns-in_err-given_by-clause-fault
returns-in_err-given_by-clause-fault c = λ fault.
    let memory : c.from_residual.result ≡ Err Memory = search rules in
    fault_iff-memory c.from_residual.result _ fault memory
    (fault_by-map rule_of_given_text (λ text. text.now) c.args.params.now c.args.texts.now
    ∙ sym c.first_fault.ensures ∙ c.in_default.is)

pub returns-in_err-push-clause-fault : goal.returns-in_err-push-clause-fault
returns-in_err-push-clause-fault c = λ fault.
    let memory : c.from_residual-in_err-push.result ≡ Err Memory = search rules in
    fault_iff-memory c.from_residual-in_err-push.result _ fault memory
    (fault_by-map rule_of_given_text (λ text. text.now) c.args.params.now c.args.texts.now
    ∙ sym c.first_fault.ensures ∙ c.in_default.is)

pub loop-index-init : goal.loop-index-init
loop-index-init c =
    let none = fault_by-None (λ param text. rule_of_given_text param text.now) c.args.params.now c.args.texts.now
    (sym c.first_fault.ensures ∙ c.in_default.is) in
    record {
      found = ap (map (λ one. Some (option_map words_of one))) c.new-given.ensures.items;
      faultless = rw c.new-given.ensures.items refl;
      left = none.1;
    }

pub loop-index-preserved : goal.loop-index-preserved
loop-index-preserved c =
    let params = c.args.params.now in
    let texts = c.args.texts.now in
    let i = c.loop-index.index in
    let one = c.in_ok-given_by.field-0 in
    let none = fault_by-None (λ param text. rule_of_given_text param text.now) params texts (sym c.first_fault.ensures
    ∙ c.in_default.is) in
    let here : i < length texts = omega (arith, none.0) in
    record {
      found = ap (map (λ one. Some (option_map words_of one))) c.in_ok-push.ensures.items
          ∙ map-more (λ one. Some (option_map words_of one)) (λ text. numbers_given text.now)
          c.loop-index.given.items one texts i _ here c.loop-index.invariant.found c.in_ok-given_by.ensures.numbers;
      faultless =
          rw c.in_ok-push.ensures.items
          (faultless-more params c.loop-index.given.items i _ one c.loop-index-test.true
          c.loop-index.invariant.faultless c.in_ok-given_by.ensures.faultless);
      left = fault_from-next (λ param text. rule_of_given_text param text.now) i params texts c.loop-index-test.true
          here c.loop-index.invariant.left;
    }

pub returns : goal.returns
returns c =
    let params = c.args.params.now in
    let texts = c.args.texts.now in
    let i = c.loop-index.index in
    let none = fault_by-None (λ param text. rule_of_given_text param text.now) params texts (sym c.first_fault.ensures
    ∙ c.in_default.is) in
    let at_end : i ≡ length params = omega arith in
    let all_params : take i params ≡ params = ap (λ n. take n params) at_end ∙ take-length params in
    let all_texts : take i texts ≡ texts = ap (λ n. take n texts) (at_end ∙ sym none.0) ∙ take-length texts in
    let whole : fault_of_given_texts params (map (λ text. text.now) texts) ≡ None =
    fault_by-map rule_of_given_text (λ text. text.now) params texts ∙ sym c.first_fault.ensures
    ∙ c.in_default.is in
    record {
      found = c.loop-index.invariant.found ∙ ap (map (λ text. numbers_given text.now)) all_texts;
      faultless = rw all_params at c.loop-index.invariant.faultless;
      fault = λ fault. fault_iff-ok (Ok c.loop-index.given) c.loop-index.given _ fault refl whole;
      only = whole;
      unstopped = λ stop e. cc;
    }
