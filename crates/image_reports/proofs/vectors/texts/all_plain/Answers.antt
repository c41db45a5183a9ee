use Rattle.std.proofs.Common.{◌≡◌, ℕ, ◌+◌, ◌<◌, ◌++◌, ◌∷◌, List, [], append_assoc, append-nil, drop, get_or, length, map}
use Rattle.std.proofs.Common.{Global, String, sym, ◌∙◌}
use Rattle.std.specs.Borrow.{Bor}
use Rattle.std.specs.String.{string_bytes}
use Rattle.std.proofs.lemmas.List.{at_drop_all, at_drop_more, map-append}
use Rattle.image_reports.specs.vectors.Texts.{plain}
use Rattle.image_reports.proofs.vectors.texts.all_plain.Goals as goal

-- texts as arguments on the command line are written
abbrev plains : List (Bor (List ℕ)) → List (List ℕ)
plains texts = map plain (map (λ text. text.now) texts)

-- one more text
one_more : (texts : List (Bor (List ℕ))) (i : ℕ) (text : Bor (List ℕ)) (string : String Global)
    (old new : List (String Global)) → i < length texts → string_bytes string ≡ plain (get_or texts i text).now
    → new ≡ old ++ string ∷ []
    → map string_bytes new ++ plains (drop (i + 1) texts) ≡ map string_bytes old ++ plains (drop i texts)
one_more texts i text string old new less is pushed =
    rw (pushed, map-append, is, at_drop_more plains texts i text less, append_assoc)

pub loop-text-preserved : goal.loop-text-preserved
loop-text-preserved c =
    let l = c.loop-text in
    one_more c.args.texts.now l.text-index (record { ref_ptr = (0, 0); now = [] }) c.in_ok-plain.field-0
    l.strings.items c.push.new.self.items c.loop-text-test.true c.in_ok-plain.ensures.plain c.in_ok-push.ensures.items
    ∙ l.invariant

pub returns-clause-plain : goal.returns-clause-plain
returns-clause-plain c =
    let l = c.loop-text in
    let none = at_drop_all plains c.args.texts.now l.text-index c.loop-text-test.false in
    sym (append-nil (map string_bytes l.strings.items)) ∙ rw none at l.invariant
