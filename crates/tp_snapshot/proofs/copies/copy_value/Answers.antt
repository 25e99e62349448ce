use Rattle.tp_snapshot.proofs.Texts.{sheet_utf8}
use Rattle.tp_snapshot.proofs.copies.copy_value.Goals as goal

pub text_value-requires : goal.text_value-requires
text_value-requires c = rw (c.as_slice.ensures.value, c.in_ok-put_sheet.ensures.written, c.new-text.ensures.items) (sheet_utf8 c.label.result c.in_ok-put_sheet.ensures.spelled)
