use Rattle.std.proofs.Common.{◌≡◌, ◌<◌, length, map, take, Some, None, Ok, Err, refl, ap, ◌∙◌, sym, arith, rules}
use Rattle.std.proofs.Math.Seq.{take-length}
use Rattle.language.specs.arguments.Texts.{numbers_of, rule_of_text, fault_of_texts}
use Rattle.language.specs.arguments.Within.{words_of}
use Rattle.language.specs.declared.arguments.texts.ReadError.TheVariants.{Argument, Memory}
use Rattle.language.proofs.arguments_lemmas.FaultLemmas.{fault_from-left, fault_from-next, fault_by-None}
use Rattle.language.proofs.arguments_lemmas.ReadLemmas.{map-more, AreWithin-more, fault_by-map, fault_iff-ok, fault_iff-memory}
use Rattle.language.proofs.arguments_lemmas.ReadLemmas.{fault_iff-fault}
use Rattle.language.proofs.arguments.texts.read.Goals as goal

pub returns-in-Some-clause-fault : goal.returns-in-Some-clause-fault
returns-in-Some-clause-fault c = λ fault.
    fault_iff-fault (Err (Argument c.in-Some.fault)) c.in-Some.fault _ fault refl
    (fault_by-map rule_of_text (λ text. text.now) c.args.params.now c.args.texts.now ∙ sym c.first_fault.ensures
    ∙ c.in-Some.is)

pub argument-requires : goal.argument-requires
argument-requires c =
    let params = c.args.params.now in
    let texts = c.args.texts.now in
    let none = fault_by-None (λ param text. rule_of_text param text.now) params texts (sym c.first_fault.ensures
    ∙ c.in_default.is) in
    (fault_from-left (λ param text. rule_of_text param text.now) c.loop-index.index params texts _ _
    c.loop-index-test.true (omega (arith, none.0)) c.loop-index.invariant.left).0

pub returns-in_err-argument-clause-fault : goal.returns-in_err-argument-clause-fault
returns-in_err-argument-clause-fault c = λ fault.
    let memory : c.from_residual.result ≡ Err Memory = search rules in
    fault_iff-memory c.from_residual.result _ fault memory
    (fault_by-map rule_of_text (λ text. text.now) c.args.params.now c.args.texts.now ∙ sym c.first_fault.ensures
    ∙ c.in_default.is)

pub returns-in_err-push-clause-fault : goal.returns-in_err-push-clause-fault
returns-in_err-push-clause-fault c = λ fault.
    let memory : c.from_residual-in_err-push.result ≡ Err Memory = search rules in
    fault_iff-memory c.from_residual-in_err-push.result _ fault memory
    (fault_by-map rule_of_text (λ text. text.now) c.args.params.now c.args.texts.now ∙ sym c.first_fault.ensures
    ∙ c.in_default.is)

pub loop-index-init : goal.loop-index-init
loop-index-init c =
    let none = fault_by-None (λ param text. rule_of_text param text.now) c.args.params.now c.args.texts.now
    (sym c.first_fault.ensures ∙ c.in_default.is) in
    record {
      spelled = ap (map (λ arg. Some (words_of arg))) c.new-args.ensures.items;
      within = rw c.new-args.ensures.items tt;
      left = none.1;
    }

pub loop-index-preserved : goal.loop-index-preserved
loop-index-preserved c =
    let params = c.args.params.now in
    let texts = c.args.texts.now in
    let i = c.loop-index.index in
    let arg = c.in_ok-argument.field-0 in
    let none = fault_by-None (λ param text. rule_of_text param text.now) params texts (sym c.first_fault.ensures
    ∙ c.in_default.is) in
    let here : i < length texts = omega (arith, none.0) in
    record {
      spelled = ap (map (λ arg. Some (words_of arg))) c.in_ok-push.ensures.items
          ∙ map-more (λ arg. Some (words_of arg)) (λ text. numbers_of text.now) c.loop-index.args.items arg texts i _
          here c.loop-index.invariant.spelled c.in_ok-argument.ensures.spelled;
      within =
          rw c.in_ok-push.ensures.items
          (AreWithin-more params c.loop-index.args.items i _ arg c.loop-index-test.true
          c.loop-index.invariant.within c.in_ok-argument.ensures.within);
      left = fault_from-next (λ param text. rule_of_text param text.now) i params texts c.loop-index-test.true here
          c.loop-index.invariant.left;
    }

pub returns : goal.returns
returns c =
    let params = c.args.params.now in
    let texts = c.args.texts.now in
    let i = c.loop-index.index in
    let none = fault_by-None (λ param text. rule_of_text param text.now) params texts (sym c.first_fault.ensures
    ∙ c.in_default.is) in
    let at_end : i ≡ length params = omega arith in
    let all_params : take i params ≡ params = ap (λ n. take n params) at_end ∙ take-length params in
    let all_texts : take i texts ≡ texts = ap (λ n. take n texts) (at_end ∙ sym none.0) ∙ take-length texts in
    let whole : fault_of_texts params (map (λ text. text.now) texts) ≡ None =
    fault_by-map rule_of_text (λ text. text.now) params texts ∙ sym c.first_fault.ensures ∙ c.in_default.is in
    record {
      found = ap (map (λ arg. Some (words_of arg))) c.new.ensures ∙ c.loop-index.invariant.spelled
          ∙ ap (map (λ text. numbers_of text.now)) all_texts;
      within = rw c.new.ensures (rw all_params at c.loop-index.invariant.within);
      fault = λ fault. fault_iff-ok (Ok c.new.result) c.new.result _ fault refl whole;
      only = whole;
    }
