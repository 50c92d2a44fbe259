use Rattle.std.proofs.Common.{arith}
use Rattle.board.proofs.Paired.{again_meaning, again_once, first_room, first_meaning, first_once}
use Rattle.board.proofs.pairs.PairsBoard.write.Goals as goal

pub invariant_of-self-clause-once : goal.invariant_of-self-clause-once
invariant_of-self-clause-once g c =
    let b = c.args.self.now in
    let rows = g.E.Pairs.Table.rows in
    again_once b.size.value b.used (rows b.table) b.size.few b.whole b.once
    (record { key = c.args.key; held = c.args.value }) c.if-key-self.false c.in-Some.i c.in-Some.ensures
    (rows c.set.new.self) c.set.ensures

pub invariant_of-self-in-None-clause-within : goal.invariant_of-self-in-None-clause-within
invariant_of-self-in-None-clause-within g c =
    let b = c.args.self.now in
    let room =
    first_room b.size.value b.used (g.E.Pairs.Table.rows b.table) b.size.few b.whole b.once
    (record { key = c.args.key; held = c.args.value }) c.if-key-self.false c.in-None.ensures in
    omega arith

pub invariant_of-self-in-None-clause-once : goal.invariant_of-self-in-None-clause-once
invariant_of-self-in-None-clause-once g c =
    let b = c.args.self.now in
    let rows = g.E.Pairs.Table.rows in
    first_once b.size.value b.used (rows b.table) b.size.few b.whole b.once
    (record { key = c.args.key; held = c.args.value }) c.if-key-self.false c.in-None.ensures
    c.from.result c.from.ensures (rows c.set-in-None.new.self) c.set-in-None.ensures

pub returns-in-Some-clause-after : goal.returns-in-Some-clause-after
returns-in-Some-clause-after g c =
    let b = c.args.self.now in
    let rows = g.E.Pairs.Table.rows in
    again_meaning b.size.value b.used (rows b.table) b.size.few b.whole b.once
    (record { key = c.args.key; held = c.args.value }) c.if-key-self.false c.in-Some.i c.in-Some.ensures
    (rows c.set.new.self) c.set.ensures

pub returns-in-None-clause-after : goal.returns-in-None-clause-after
returns-in-None-clause-after g c =
    let b = c.args.self.now in
    let rows = g.E.Pairs.Table.rows in
    first_meaning b.size.value b.used (rows b.table) b.size.few b.whole b.once
    (record { key = c.args.key; held = c.args.value }) c.if-key-self.false c.in-None.ensures
    c.from.result c.from.ensures (rows c.set-in-None.new.self) c.set-in-None.ensures
