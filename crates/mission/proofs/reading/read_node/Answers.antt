use Rattle.std.proofs.Common.{rules}
use Rattle.mission.specs.Lines.{line, ranged, raw}
use Rattle.mission.proofs.LineReadings.{line_read}
use Rattle.mission.proofs.reading.read_node.Goals as goal

pub returns : goal.returns
returns c = line_read line ranged raw c.args.lines.now c.take.new.self c.in_ok-line.line c.judge_line.result c.map_err.result c.in_ok-line.ensures c.judge_line.ensures (search rules)
