-- Each way out by its tests.
use mathlib.Core.Path.{sym, ◌∙◌}
use Rattle.path_text.proofs.CallLaws.{decode-journal, decode-image, decode-outside, decode-full, decode-written}
use Rattle.path_text.proofs.decode.Goals as goal

pub returns-then-journal-gt-DOMAIN : goal.returns-then-journal-gt-DOMAIN
returns-then-journal-gt-DOMAIN c = decode-journal _ _ _ _ c.if-journal-gt-DOMAIN.true

pub returns-then-image-gt-DOMAIN : goal.returns-then-image-gt-DOMAIN
returns-then-image-gt-DOMAIN c = decode-image _ _ _ _ c.if-journal-gt-DOMAIN.false c.if-image-gt-DOMAIN.true

pub returns-then-not-is_inside : goal.returns-then-not-is_inside
returns-then-not-is_inside c = decode-outside _ _ _ _ c.if-journal-gt-DOMAIN.false c.if-image-gt-DOMAIN.false (sym c.is_inside.ensures ∙ c.if-not-is_inside.true)

pub returns-then-text-place_length : goal.returns-then-text-place_length
returns-then-text-place_length c = decode-full _ _ _ _ c.if-journal-gt-DOMAIN.false c.if-image-gt-DOMAIN.false (sym c.is_inside.ensures ∙ c.if-not-is_inside.false) c.place_length.ensures c.if-text-place_length.true

pub returns : goal.returns
returns c = decode-written _ _ _ _ c.if-journal-gt-DOMAIN.false c.if-image-gt-DOMAIN.false (sym c.is_inside.ensures ∙ c.if-not-is_inside.false) c.place_length.ensures c.if-text-place_length.false c.put_place.ensures
