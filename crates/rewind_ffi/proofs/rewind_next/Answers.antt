-- Too few words are refused behind the domain; otherwise the step's equations say what goes out.
use lib.ListN.{length}
use borrow.Author.Rules.{rules}
use Rattle.rewind_ffi.proofs.StepLaws.{step-out, steps-told-short, steps-told-answered}
use Rattle.rewind_ffi.proofs.DomainLaws.{step-text-domain}
use Rattle.rewind_ffi.proofs.rewind_next.Goals as goal

pub returns-then-out-lt-PATH_STEP_WORDS : goal.returns-then-out-lt-PATH_STEP_WORDS
returns-then-out-lt-PATH_STEP_WORDS c = let a = c.args in steps-told-short _ _ _ _ _ _ _ _ (step-text-domain a.journal.now a.image.now a.records.now a.forward.now a.used a.position (length a.text.now)) c.if-out-lt-PATH_STEP_WORDS.true c.short_over.ensures

pub returns : goal.returns
returns c = steps-told-answered _ _ _ _ _ _ _ _ c.if-out-lt-PATH_STEP_WORDS.false c.rewind_next.ensures.forward c.rewind_next.ensures.places c.rewind_next.ensures.written (step-out _ _ c.rewind_next.ensures.answer c.rewind_next.ensures.state c.put_step.ensures)
