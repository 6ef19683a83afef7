-- `header` by the T bit. Assumes nothing.
use Rattle.wording.proofs.Sheets.{then-writes}
use Rattle.titles.specs.Titles.{sequence_text, header_line}
use Rattle.titles.proofs.header.Goals as goal

pub returns-then-has_teid : goal.returns-then-has_teid
unfolding header_line sequence_text
returns-then-has_teid c =
    rw (← c.has_teid.ensures, c.if-has_teid.true, ← c.octet.ensures, ← c.octet-then-has_teid.ensures, ← c.octet-then-has_teid-2.ensures, ← c.octet-then-has_teid-3.ensures, ← c.octet-then-has_teid-4.ensures, ← c.octet-then-has_teid-5.ensures, ← c.octet-then-has_teid-6.ensures)
    (then-writes c.say.ensures (then-writes c.hexes.ensures (then-writes c.say-then-has_teid.ensures (then-writes c.hexes-then-has_teid.ensures c.put.ensures))))

pub returns-else-has_teid : goal.returns-else-has_teid
unfolding header_line sequence_text
returns-else-has_teid c =
    rw (← c.has_teid.ensures, c.if-has_teid.false, ← c.octet-else-has_teid.ensures, ← c.octet-else-has_teid-2.ensures, ← c.octet-else-has_teid-3.ensures)
    (then-writes c.say-else-has_teid.ensures (then-writes c.hexes-else-has_teid.ensures c.put-else-has_teid.ensures))
