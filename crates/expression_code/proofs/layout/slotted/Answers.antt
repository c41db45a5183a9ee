use Rattle.std.proofs.Common.{◌≡◌, ℕ, ◌+◌, ◌<◌, ◌++◌, List, [], ◌∷◌, drop, get_or, length, Option, append_assoc, append-nil}
use Rattle.std.proofs.Common.{Bool, if◌then◌else◌, sym, ◌∙◌}
use Rattle.std.proofs.lemmas.List.{at_drop_all, at_drop_more}
use Rattle.expression_code.proofs.Below.{FlatVariable}
use Rattle.expression_code.specs.Layout.{has_slot, slotted_from, without_words}
use Rattle.expression_code.proofs.layout.slotted.Goals as goal

-- one more variable
one_more : (given : ℕ) (homes : List (Option ℕ)) (ds : List FlatVariable) (x : ℕ) (d here : FlatVariable)
    (slot : Bool) (old new : List FlatVariable) → x < length ds → slot ≡ has_slot given homes x
    → here ≡ (if slot then get_or ds x d else without_words (get_or ds x d)) → new ≡ old ++ here ∷ []
    → new ++ slotted_from given homes (x + 1) (drop (x + 1) ds) ≡ old ++ slotted_from given homes x (drop x ds)
one_more given homes ds x d here slot old new less has is pushed =
    rw (pushed, is, has, at_drop_more (slotted_from given homes x) ds x d less, append_assoc)

pub loop-number-preserved : goal.loop-number-preserved
loop-number-preserved c =
    let l = c.loop-number in
    record {
      made =
          one_more c.args.given c.args.homes.now c.args.declared.now l.number _ c.laid.result
          c.has_slot.result l.all.items c.push.new.self.items c.loop-number-test.true c.has_slot.ensures c.laid.ensures
          c.in_ok-push.ensures.items
          ∙ l.invariant.made;
    }

pub returns : goal.returns
returns c =
    let l = c.loop-number in
    let none =
    at_drop_all (slotted_from c.args.given c.args.homes.now l.number) c.args.declared.now l.number
    c.loop-number-test.false in
    sym (append-nil l.all.items) ∙ rw none at l.invariant.made
