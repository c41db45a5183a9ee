use Rattle.std.proofs.Common.{◌≡◌, ℕ, ◌+◌, ◌<◌, ◌++◌, List, [], append_assoc, append-nil, codes, drop, get_or, length, map}
use Rattle.std.proofs.Common.{sym, ◌∙◌}
use Rattle.std.specs.Borrow.{Bor}
use Rattle.std.specs.List.{flat_map}
use Rattle.std.specs.String.{string_bytes}
use Rattle.std.proofs.lemmas.List.{at_drop_all, at_drop_more}
use Rattle.image_reports.proofs.vectors.texts.push_texts.Goals as goal

-- texts, each with a blank before it
abbrev blanked : List (Bor (List ℕ)) → List ℕ
blanked texts = flat_map (λ text. codes " " ++ text) (map (λ text. text.now) texts)

-- one more text
one_more : (texts : List (Bor (List ℕ))) (i : ℕ) (text : Bor (List ℕ)) (old middle new : List ℕ) → i < length texts
    → middle ≡ old ++ codes " " → new ≡ middle ++ (get_or texts i text).now
    → new ++ blanked (drop (i + 1) texts) ≡ old ++ blanked (drop i texts)
one_more texts i text old middle new less blank pushed =
    rw (pushed, blank, at_drop_more blanked texts i text less) (simp append_assoc)

pub loop-further-preserved : goal.loop-further-preserved
loop-further-preserved c =
    let l = c.loop-further in
    one_more c.args.texts.now l.further-index (record { ref_ptr = (0, 0); now = [] }) (string_bytes l.text)
    _ (string_bytes c.push_str-in-loop-further.new.self) c.loop-further-test.true c.in_ok-push_str.ensures.bytes
    c.in_ok-push_str-2.ensures.bytes
    ∙ l.invariant

pub returns : goal.returns
returns c =
    let l = c.loop-further in
    let none = at_drop_all blanked c.args.texts.now l.further-index c.loop-further-test.false in
    sym (append-nil (string_bytes l.text)) ∙ rw none at l.invariant
