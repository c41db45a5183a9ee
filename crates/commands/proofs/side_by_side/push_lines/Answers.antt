-- One byte more.
use Rattle.std.proofs.Common.{◌≡◌, ◌+◌, ◌<◌, ◌==◌, ◌++◌, ◌∷◌, [], ℕ, Bool, true, false, List, length, drop, get_or}
use Rattle.std.proofs.Common.{sym, ap, ◌∙◌, subst, append_assoc, Vec, Global}
use Rattle.std.specs.String.{string_bytes}
use Rattle.std.proofs.lemmas.List.{drop_more}
use Rattle.commands.specs.HartsText.{with_fronts}
use Rattle.commands.proofs.side_by_side.push_lines.Goals as goal
use Rattle.commands.proofs.side_by_side.push_lines.Goals.{then-begins+in_ok-extend_from_slice, else-begins}

with_front : (front lines before text text' text'' : List ℕ) (begins : Bool) (i : ℕ) → i < length lines
    → begins ≡ true → text' ≡ text ++ front → text'' ≡ text' ++ get_or lines i 0 ∷ []
    → text ++ with_fronts front begins (drop i lines) ≡ before
    → text'' ++ with_fronts front (get_or lines i 0 == 10) (drop (i + 1) lines) ≡ before
with_front front lines before text text' text'' begins i low is put pushed h =
    let byte = get_or lines i 0 in
    let rest = with_fronts front (byte == 10) (drop (i + 1) lines) in
    let next : with_fronts front true (drop i lines) ≡ front ++ byte ∷ rest =
    ap (with_fronts front true) (drop_more lines i 0 low) in
    let now : text ++ with_fronts front true (drop i lines) ≡ before =
    subst (λ (b : Bool). text ++ with_fronts front b (drop i lines) ≡ before) is h in
    let parts : ((text ++ front) ++ byte ∷ []) ++ rest ≡ text ++ (front ++ byte ∷ rest) = simp append_assoc in
    ap (λ t. t ++ rest) (pushed ∙ ap (λ t. t ++ byte ∷ []) put) ∙ parts ∙ ap (λ more. text ++ more) (sym next) ∙ now

with_none : (front lines before text text' : List ℕ) (begins : Bool) (i : ℕ) → i < length lines → begins ≡ false
    → text' ≡ text ++ get_or lines i 0 ∷ []
    → text ++ with_fronts front begins (drop i lines) ≡ before
    → text' ++ with_fronts front (get_or lines i 0 == 10) (drop (i + 1) lines) ≡ before
with_none front lines before text text' begins i low is pushed h =
    let byte = get_or lines i 0 in
    let rest = with_fronts front (byte == 10) (drop (i + 1) lines) in
    let next : with_fronts front false (drop i lines) ≡ byte ∷ rest =
    ap (with_fronts front false) (drop_more lines i 0 low) in
    let now : text ++ with_fronts front false (drop i lines) ≡ before =
    subst (λ (b : Bool). text ++ with_fronts front b (drop i lines) ≡ before) is h in
    ap (λ t. t ++ rest) pushed ∙ append_assoc text (byte ∷ []) rest ∙ ap (λ more. text ++ more) (sym next) ∙ now

pub loop-byte-preserved : goal.loop-byte-preserved
loop-byte-preserved c = elim c.if-begins.branch [
  | then-begins+in_ok-extend_from_slice w ↦
      with_front (string_bytes c.in_ok-front.front) c.args.lines.now _ c.loop-byte.text.items c.if-begins.text.items
      c.push.new.self.items c.loop-byte.begins c.loop-byte.byte-index c.loop-byte-test.true w.if-begins.true
      (ap (λ (t : Vec ℕ Global). t.items) w.text-is ∙ w.in_ok-extend_from_slice.ensures.items
      ∙ ap (λ front. c.loop-byte.text.items ++ front) w.as_bytes.ensures.value) c.in_ok-push.ensures.items
      c.loop-byte.invariant
  | else-begins w ↦ with_none (string_bytes c.in_ok-front.front) c.args.lines.now _ c.loop-byte.text.items
      c.push.new.self.items c.loop-byte.begins c.loop-byte.byte-index c.loop-byte-test.true w.if-begins.false
      (c.in_ok-push.ensures.items
      ∙ ap (λ (t : Vec ℕ Global). t.items ++ get_or c.args.lines.now c.loop-byte.byte-index 0 ∷ []) w.text-is)
      c.loop-byte.invariant
]
