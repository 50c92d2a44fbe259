use Rattle.std.proofs.Common.{◌≡◌, ℕ, ◌+◌, ◌-◌, ◌∙◌, ap, subst, length, take, drop, slice_index_or, arith, rules}
use Rattle.mission.specs.Nodes.{arity}
use Rattle.std.proofs.lemmas.List.{get_or_default}
use Rattle.mission.specs.Trees.{grown}
use Rattle.mission.specs.declared.node.Node.TheVariants.{Not}
use Rattle.sitting.specs.Ends.{past, all_ends}
use Rattle.sitting.proofs.Ending.{found_more, found_none}
use Rattle.sitting.proofs.making.ends_of.Goals as goal

pub loop-at-init : goal.loop-at-init
loop-at-init c = record { found = found_none c.args.nodes.now _; table = search rules }

pub loop-at-preserved : goal.loop-at-preserved
loop-at-preserved c =
    let i = c.loop-at.at - 1 in
    let before = c.loop-at.auto.at in
    let some = c.loop-at-test.true in
    let table = c.loop-at.invariant.table in
    let f : ℕ → ℕ = λ j. slice_index_or c.loop-at.ends j 0 in
    let node = c.index-nodes-at.is ∙ get_or_default c.args.nodes.now i c.index-nodes-at.result Not (omega arith) in
    record {
      found = found_more c.args.nodes.now c.loop-at.ends c.loop-at.at i c.past.result (omega arith) (omega arith) (omega (arith, c.requires)) (c.past.ensures ∙ ap (λ k. past k f (i + 1)) (c.kids.ensures ∙ ap arity node)) c.loop-at.invariant.found;
      table = search rules;
    }

pub returns : goal.returns
returns c ts g =
    let e : c.loop-at.at ≡ 0 = omega (arith, c.loop-at-test.false) in
    subst (λ i. drop i (take (length c.args.nodes.now) c.loop-at.ends) ≡ all_ends ts i) e (c.loop-at.invariant.found ts (ap (λ i. grown (drop i c.args.nodes.now)) e ∙ g))
