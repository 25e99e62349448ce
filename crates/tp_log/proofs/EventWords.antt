-- The words of an event have neither a space nor a line end in them.
use Rattle.std.proofs.Common.{◌≡◌, inl, inr, true, eqb, List, [], ◌∷◌, map, refl, ◌∙◌, arith, decimal}
use Rattle.std.specs.List.{AllByRecursion, list_all}
use Rattle.std.proofs.lemmas.Bool.{cases_Bool, and_from}
use Rattle.std.proofs.lemmas.List.Folds.{list_all-append}
use Rattle.tp_machine.specs.declared.parts.Want.{Want}
use Rattle.tp_machine.specs.declared.parts.Want.TheVariants.{Blank, Mono, Colour}
use Rattle.tp_machine.specs.declared.parts.Face.{Face}
use Rattle.tp_machine.specs.declared.parts.Face.TheVariants.{Front, Back}
use Rattle.tp_script.specs.declared.event.Event.{Event as AnEvent}
use Rattle.tp_script.specs.declared.event.Event.TheVariants.{Bad as BadLine, Job, Clock, Jam, Off, On, Refill}
use Rattle.tp_script.specs.Form.{GroupForm}
use Rattle.tp_script.specs.Printed.{IsCounted, IsWhole, IsEchoed}
use Rattle.tp_script.specs.Script.{want_byte, face_byte, spec_text, group_text, event_words}
use Rattle.tp_words.proofs.Texts.{is_visible, IsVisible, AllVisible, name_visible, number_visible}

want_visible : (w : Want) → is_visible (want_byte w) ≡ true
want_visible Blank = refl
want_visible Mono = refl
want_visible Colour = refl

face_visible : (f : Face) → is_visible (face_byte f) ≡ true
face_visible Front = refl
face_visible Back = refl

spec_visible : (g : GroupForm) → IsVisible (spec_text g)
spec_visible g = rw (want_visible g.front, want_visible g.back, face_visible g.face) refl

group_visible : (g : GroupForm) → IsCounted g → IsVisible (group_text g)
group_visible g h =
    elim (cases_Bool (eqb g.count 1)) [
      | inl one ↦ rw one (spec_visible g)
      | inr more ↦ rw more (list_all-append is_visible (decimal g.count) (42 ∷ spec_text g) ∙ and_from (list_all is_visible (decimal g.count)) (list_all is_visible (42 ∷ spec_text g)) (number_visible g.count (omega (arith, h.1))) (spec_visible g))
    ]

groups_visible : (gs : List GroupForm) → AllByRecursion IsCounted gs → AllVisible (map group_text gs)
groups_visible [] h = tt
groups_visible (g ∷ gs) h = (group_visible g h.0, groups_visible gs h.1)

whole_visible : (e : AnEvent) → IsWhole e → AllVisible (event_words e)
whole_visible BadLine h = absurd h
whole_visible (Job n t m gs) (name, tray, media, some, counted) = (refl, (name_visible n name, (name_visible t tray, (name_visible m media, groups_visible gs counted))))
whole_visible (Clock to) h = (refl, (number_visible to h, tt))
whole_visible (Jam n) h = (refl, (name_visible n h, tt))
whole_visible (Off n) h = (refl, (name_visible n h, tt))
whole_visible (On n) h = (refl, (name_visible n h, tt))
whole_visible (Refill n count) (name, below) = (refl, (name_visible n name, (number_visible count below, tt)))

pub event_visible : (e : AnEvent) → IsEchoed e → AllVisible (event_words e)
event_visible e (inl bad) = rw bad (refl, tt)
event_visible e (inr whole) = whole_visible e whole
