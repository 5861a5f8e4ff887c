use Rattle.szs_report.proofs.WriteLaws.{writes_by}
use Rattle.szs_report.proofs.piece.write_piece.Goals as goal

pub returns-in-Bytes : goal.returns-in-Bytes
returns-in-Bytes g c =
    let w = c.write_all_counted.ensures in
    rw (c.in-Bytes.is) (writes_by _ _ _ _ _ _ c.write_all_counted.result w.appended w.failed w.quiet w.cause w.later w.telling)

pub returns-in-Number : goal.returns-in-Number
returns-in-Number g c =
    let w = c.write_all_counted-in-Number.ensures in
    rw (c.in-Number.is, ← c.format.ensures.text, ← c.as_bytes.ensures.value) (writes_by _ _ _ _ _ _ c.write_all_counted-in-Number.result w.appended w.failed w.quiet w.cause w.later w.telling)

pub returns-in-NumberLine : goal.returns-in-NumberLine
returns-in-NumberLine g c =
    let w = c.write_pieces.ensures in
    rw (c.in-NumberLine.is, ← c.format-in-NumberLine.ensures.text, ← c.as_bytes-in-NumberLine.ensures.value) (writes_by _ _ _ _ _ _ c.write_pieces.result w.appended w.failed w.quiet w.cause w.later w.telling)

pub returns-in-Text : goal.returns-in-Text
returns-in-Text g c =
    let w = c.write_to.ensures in
    rw (c.in-Text.is) (writes_by _ _ _ _ _ _ c.write_to.result w.appended w.failed w.quiet w.cause w.later w.telling)
