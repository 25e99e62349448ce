use Rattle.tp_schedule_check.proofs.timed.is_led_from.Goals as goal

pub returns : goal.returns
returns c = (
  λ t. let both = c.does_lead.ensures.0 t in record { media = both.0; arrives = both.1 },
  λ led. c.does_lead.ensures.1 (led.media, led.arrives),
)
