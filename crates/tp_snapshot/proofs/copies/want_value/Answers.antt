use Rattle.tp_snapshot.proofs.Texts.{want_bytes}
use Rattle.tp_snapshot.proofs.copies.want_value.Goals as goal

pub text_value-requires : goal.text_value-requires
text_value-requires c = rw (c.as_slice.ensures.value, c.in_ok-put_sides.ensures, c.in_ok-push.ensures.items, c.in_ok-extend_from_slice.ensures.items, c.name_bytes.ensures.value, c.new-text.ensures.items) (want_bytes c.args.want.now c.name_bytes.ensures.spelled)
