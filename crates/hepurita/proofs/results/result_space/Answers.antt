use Rattle.std.proofs.Common.{rules, ◌≡◌, ◌≢◌, [], ◌∷◌, ◌+◌, ◌≤◌, ◌++◌, drop, slice_index_or, is_ok, sym, ap, ◌∙◌}
use Rattle.std.proofs.ResultArms.{chosen}
use Rattle.std.proofs.lemmas.List.Elements.{All-from_recursion, All-push}
use Rattle.hepurita.specs.Below.{arrays_in, MutableArray, Slot, slot_end}
use Rattle.hepurita.specs.declared.results.ArraySpace.{ArraySpace}
use Rattle.hepurita.specs.Frames.{HasSpace}
use Rattle.hepurita.proofs.LoadLemmas.{no_slot}
use Rattle.hepurita.proofs.SpaceLemmas.{array_inside, past_other, past_array, in_order_more}
use Rattle.hepurita.proofs.results.result_space.Goals as goal
use Rattle.hepurita.proofs.results.result_space.Goals.{then-eq+in_ok-words+in_ok-push, else-eq}

pub loop-slot-preserved : goal.loop-slot-preserved
loop-slot-preserved c =
    let i = c.loop-slot.slot-index in
    let slots = c.slots-slot-items.result.now in
    let slot = slice_index_or slots i no_slot in
    let bound = c.args.image.now.frame_bytes in
    let inside : slot_end slot ≤ bound = All-from_recursion (λ (s : Slot). slot_end s ≤ bound) slots
    (rw c.slots-slot-items.ensures.slots c.slots-slot-items.ensures.allowed.slots_inside) i no_slot
    c.loop-slot-test.true in
    elim c.if-eq.branch [
      | then-eq+in_ok-words+in_ok-push w ↦
          let is : slot.param.form ≡ MutableArray = search (rules, w.if-eq.ensures, c.eq.ensures) in
          let words = w.in_ok-words.words in
          let one : ArraySpace = record { slot = slot; words = words } in
          let pushed : c.if-eq.each.items ≡ c.loop-slot.each.items ++ one ∷ [] = ap (λ v. v.items) w.each-is
          ∙ chosen _ _ _ _ w.push.ensures.items (ap is_ok w.in_ok-push.was) in
          record {
            each = rw pushed
                (All-push (HasSpace bound) c.loop-slot.each.items one c.loop-slot.invariant.each
                (record {
                  inside = array_inside bound slot is inside;
                  empty = w.in_ok-words.ensures.items;
                  enough = w.in_ok-words.ensures.capacity;
                }));
            in_order = λ frame bytes. rw pushed
                (in_order_more frame bytes c.loop-slot.each.items one (arrays_in frame bytes (drop i slots))
                (arrays_in frame bytes (drop (i + 1) slots)) (arrays_in frame bytes c.args.image.now.slots)
                (past_array frame bytes slots i no_slot c.loop-slot-test.true is)
                (c.loop-slot.invariant.in_order frame bytes));
          }
      | else-eq w ↦
          let other : slot.param.form ≢ MutableArray = search (rules, w.if-eq.ensures, c.eq.ensures) in
          let same : c.if-eq.each.items ≡ c.loop-slot.each.items = ap (λ v. v.items) w.each-is in
          record {
            each = rw same c.loop-slot.invariant.each;
            in_order = λ frame bytes. rw
                (same, sym (past_other frame bytes slots i no_slot c.loop-slot-test.true other))
                (c.loop-slot.invariant.in_order frame bytes);
          }
    ]
