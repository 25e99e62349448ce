-- What is composed of a text is written, or cut short.
use Rattle.std.proofs.Common.{◌≡◌, ◌++◌, List, ℕ, Option, Some, subst}
use Rattle.std.specs.Prelude.{IfSome}
use Rattle.tp_compose.specs.Texts.{IsComposed, IsSoundRack}
use Rattle.tp_outside.specs.Outside.{Files}
use Rattle.tp_outside.specs.PartialTransfer.{IsCutShort}
use Rattle.tp_program.specs.ComposeEnds.{WritesComposed}
use Rattle.tp_program.specs.Texts.{IsShelved}
use Rattle.tp_program.specs.declared.status.Status.TheVariants.{Done, Sink}

module _ (known : Option Files) (name : List ℕ) (taken taken' : Option (List ℕ)) (bytes piece : List ℕ) (made : IsShelved known name (λ text. IsSoundRack text × IsComposed text bytes)) (same : piece ≡ bytes) where
  pub wrote_whole : IfSome taken (λ before. taken' ≡ Some (before ++ piece)) → WritesComposed known name taken taken' Done
  wrote_whole whole = record {
    text = made.text;
    is_known = made.is_known;
    fits = made.fits;
    has = (made.has.0, (bytes, made.has.1, subst (λ p. IfSome taken (λ before. taken' ≡ Some (before ++ p))) same whole));
  }

  pub wrote_part : IfSome taken (IsCutShort piece taken') → WritesComposed known name taken taken' Sink
  wrote_part part = record {
    text = made.text;
    is_known = made.is_known;
    fits = made.fits;
    has = (made.has.0, (bytes, made.has.1, subst (λ p. IfSome taken (IsCutShort p taken')) same part));
  }
