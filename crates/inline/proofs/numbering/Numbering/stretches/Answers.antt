use Rattle.std.proofs.Common.{arith, ◌≡◌, ◌+◌, ◌-◌, ◌∷◌, ap, drop, length, length-append, sym, ◌∙◌}
use Rattle.std.proofs.lemmas.List.{append-nil, append_assoc, drop_all, drop_more}
use Rattle.inline.specs.Flat.{flat_block, length_of}
use Rattle.inline.specs.Callees.{called_by}
use Rattle.inline.specs.Below.{statement_tree}
use Rattle.inline.specs.Numbering.{statement}
use Rattle.inline.proofs.BlockLemmas.{chain_chain, chain_nothing, grown}
use Rattle.inline.proofs.numbering.Numbering.stretches.Goals as goal

pub overflow_sub-after : goal.overflow_sub-after
overflow_sub-after c =
    omega (
      arith,
      c.len-before.ensures,
      c.len-after.ensures,
      grown c.loop-statement.flat.items c.statement.new.flat.items _ c.in_ok-statement.ensures.block,
    )

pub loop-statement-preserved : goal.loop-statement-preserved
loop-statement-preserved c =
    let s = c.statement-item.result in
    let l = c.loop-statement in
    let rest = drop (l.statement-index + 1) c.args.block.now in
    let here : drop l.statement-index c.args.block.now ≡ s ∷ rest =
    drop_more c.args.block.now l.statement-index s c.loop-statement-test.true
    ∙ ap (λ x. x ∷ rest) (sym c.statement-item.is) in
    let made = c.in_ok-statement.ensures in
    let count : c.len-after.result - c.len-before.result
    ≡ length_of (statement (called_by c.args.earlier.now) l.self.names (length l.declared.items) (statement_tree s)) =
    omega (
      arith,
      c.len-before.ensures,
      c.len-after.ensures,
      grown l.flat.items c.statement.new.flat.items _ made.block,
    ) in
    record {
      stretches = rw (
        c.in_ok-push.ensures.items,
        append_assoc,
        c.place.ensures,
        count,
        made.names,
        made.declared,
        length-append,
      ) (rw here at l.invariant.stretches);
      block = rw (made.block, made.names, made.declared, length-append, chain_chain) (rw here at l.invariant.block);
      names = rw (made.names, made.declared, length-append) (rw here at l.invariant.names);
      declared = rw (made.declared, append_assoc) (rw here at l.invariant.declared);
    }

pub returns-clause-block : goal.returns-clause-block
returns-clause-block c =
    let l = c.loop-statement in
    sym (chain_nothing (flat_block l.flat.items))
    ∙ (rw (drop_all l.statement-index c.args.block.now c.loop-statement-test.false) at l.invariant.block)

pub returns-clause-names : goal.returns-clause-names
returns-clause-names c =
    let l = c.loop-statement in
    rw (drop_all l.statement-index c.args.block.now c.loop-statement-test.false) at l.invariant.names

pub returns-clause-stretches : goal.returns-clause-stretches
returns-clause-stretches c =
    let l = c.loop-statement in
    sym (append-nil l.all.items)
    ∙ (rw (drop_all l.statement-index c.args.block.now c.loop-statement-test.false) at l.invariant.stretches)

pub returns-clause-declared : goal.returns-clause-declared
returns-clause-declared c =
    let l = c.loop-statement in
    sym (append-nil l.declared.items)
    ∙ (rw (drop_all l.statement-index c.args.block.now c.loop-statement-test.false) at l.invariant.declared)
