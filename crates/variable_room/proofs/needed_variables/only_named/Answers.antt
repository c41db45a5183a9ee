use Rattle.std.proofs.Common.{None, false, append_assoc, append-nil, refl}
use Rattle.std.proofs.lemmas.List.{at_drop_all, at_drop_more}
use Rattle.variable_room.specs.Below.{Boolean, FlatVariable, Public}
use Rattle.variable_room.specs.needed_variables.private.Named.{needed_from}
use Rattle.variable_room.proofs.needed_variables.only_named.Goals as goal

-- what a list of variables has where it has none
abbrev none_yet : FlatVariable
none_yet = record { word = record { label = Public; kind = Boolean }; mutable = false; elements = None }

pub loop-number-preserved : goal.loop-number-preserved
loop-number-preserved c =
    let l = c.loop-number in
    let here = at_drop_more (needed_from c.args.named.now l.number) c.args.declared.now l.number none_yet
    c.loop-number-test.true in
    rw (
      c.in_ok-push.ensures.items,
      c.kept_where.ensures,
      c.is_named.ensures,
      append_assoc,
      ← l.invariant,
      here,
    ) refl

pub returns : goal.returns
returns c =
    let l = c.loop-number in
    let none = at_drop_all (needed_from c.args.named.now l.number) c.args.declared.now l.number
    c.loop-number-test.false in
    rw (← l.invariant, none, append-nil) refl
