-- `spelled_lines::write_spelled` meets its contract: there is no room, or the line is copied.
use mathlib.Core.Path.{◌≡◌, ap, ◌∙◌}
use mathlib.Core.List.{List}
use Prim.Native.Nat.{ℕ}
use lib.ListN.{take}
use Rattle.station.specs.Places.{fields_of}
use Rattle.station.specs.Codes.{value_of}
use Rattle.semicolons.specs.Fields.{station_sides, trimmed_fields}
use Rattle.semicolons.specs.Lines.{joined_line, line_of}
use Rattle.lists.proofs.RoundTrip.{record_line}
use Rattle.lists.proofs.CallLaws.{no_room, line-written}
use borrow.Author.Rules.{rules}
use Rattle.spelled_lines.proofs.write_spelled.Goals as goal
use Rattle.spelled_lines.proofs.write_spelled.Goals.{After-put_line-n}

-- what is put first is the station's line
line-put : (c : After-put_line-n) → take c.put_line-n.result c.put_line-n.new.out ≡ line_of (value_of c.args.rec.now)
line-put c =
    c.put_line-n.ensures.1 ∙ ap (λ (r : List ℕ). joined_line (trimmed_fields station_sides (fields_of r))) c.requires.2 ∙ record_line (value_of c.args.rec.now) c.requires.1

pub returns-then-buffer-n : goal.returns-then-buffer-n
returns-then-buffer-n c =
    no_room (value_of c.args.rec.now) c.args.buffer.now c.requires.1 _ _ (search rules) (line-put (goal.at.returns-then-buffer-n c).After-put_line-n) c.if-buffer-n.true

pub returns : goal.returns
returns c =
    line-written (value_of c.args.rec.now) c.args.buffer.now c.requires.1 _ _ (search rules) (line-put (goal.at.returns c).After-put_line-n) c.if-buffer-n.false _ c.put_first.ensures
