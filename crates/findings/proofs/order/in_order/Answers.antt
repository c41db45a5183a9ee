use Rattle.std.proofs.Common.{rules}
use Rattle.std.proofs.lemmas.List.Sorted.{answers_always}
use Rattle.findings.proofs.OrderLemmas.{is_order}
use Rattle.language.specs.Sooner.{comes_before}
use Rattle.findings.proofs.order.in_order.Goals as goal

pub returns : goal.returns
returns c = record {
  same = c.in_ok-sort_by.ensures.permutation;
  ascend = c.in_ok-sort_by.ensures.sorted comes_before is_order (answers_always _ _ _ (λ f a r g k. search rules));
  stable = c.in_ok-sort_by.ensures.stable comes_before is_order (answers_always _ _ _ (λ f a r g k. search rules));
}
