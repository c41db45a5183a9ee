-- It is in this argument, or in none.
use Rattle.std.proofs.Common.{◌≡◌, ◌+◌, ◌++◌, [], List, ℕ, drop, ap, refl, sym, ◌∙◌, append-nil, subst}
use Rattle.std.specs.Prelude.{slice_index_or}
use Rattle.std.specs.Result.{OnOk}
use Rattle.std.specs.String.{string_bytes}
use Rattle.std.proofs.lemmas.List.{drop_all, drop_more}
use Rattle.image_reports.specs.Below.{frame_base, Slot}
use Rattle.image_reports.specs.certificate_explanations.Places.{argument_text, place_text}
use Rattle.image_reports.proofs.certificates_lemmas.Below.{no_slot}
use Rattle.image_reports.proofs.certificate_explanations_lemmas.Places.{place_here, place_later}
use Rattle.image_reports.proofs.certificate_explanations.places.push_place.Goals as goal

pub loop-index-init : goal.loop-index-init
loop-index-init c = record { same = refl; left = refl }

pub returns-in-Some : goal.returns-in-Some
returns-in-Some c =
    let slots = c.args.slots.now in
    let i = c.loop-index.index in
    let slot = slice_index_or slots i no_slot in
    let here = place_here frame_base c.args.address slots i slot (drop (i + 1) slots)
    (drop_more slots i no_slot c.loop-index-test.true) c.in-Some.distance (sym c.distance_in.ensures ∙ c.in-Some.is) in
    subst (λ (before : List ℕ). OnOk c.push_argument.result (string_bytes c.push_argument.new.text
    ≡ before ++ place_text frame_base 0 slots c.args.address)) c.loop-index.invariant.same
    (subst (λ (said : List ℕ). OnOk c.push_argument.result (string_bytes c.push_argument.new.text
    ≡ string_bytes c.loop-index.text ++ said)) (sym here ∙ c.loop-index.invariant.left) c.push_argument.ensures)

pub loop-index-preserved : goal.loop-index-preserved
loop-index-preserved c =
    let slots = c.args.slots.now in
    let i = c.loop-index.index in
    record {
      same = c.loop-index.invariant.same;
      left = sym (place_later frame_base c.args.address slots i (slice_index_or slots i no_slot) (drop (i + 1) slots)
          (drop_more slots i no_slot c.loop-index-test.true) (sym c.distance_in.ensures ∙ c.in_default.is))
          ∙ c.loop-index.invariant.left;
    }

pub returns : goal.returns
returns c =
    let slots = c.args.slots.now in
    let i = c.loop-index.index in
    let none = ap (λ (some : List Slot). place_text frame_base i some c.args.address)
    (drop_all i slots c.loop-index-test.false) in
    c.loop-index.invariant.same ∙ sym (append-nil (string_bytes c.args.text.now))
    ∙ ap (λ (said : List ℕ). string_bytes c.args.text.now ++ said) (sym none ∙ c.loop-index.invariant.left)
