-- Too few words are refused behind the domain; otherwise the step's equations say what goes out.
use borrow.Author.Rules.{rules}
use Rattle.rewind_ffi.proofs.StepLaws.{step-out, steps-short, steps-answered}
use Rattle.rewind_ffi.proofs.DomainLaws.{step-domain}
use Rattle.rewind_ffi.proofs.rewind_next_chain.Goals as goal

pub returns-then-out-lt-CHAIN_STEP_WORDS : goal.returns-then-out-lt-CHAIN_STEP_WORDS
returns-then-out-lt-CHAIN_STEP_WORDS c = let a = c.args in steps-short _ _ _ _ _ _ (step-domain a.journal.now a.image.now a.records.now a.forward.now a.used a.position) c.if-out-lt-CHAIN_STEP_WORDS.true c.short_over.ensures

pub returns : goal.returns
returns c = steps-answered _ _ _ _ _ _ c.if-out-lt-CHAIN_STEP_WORDS.false c.rewind_next_chain-step.ensures.forward c.rewind_next_chain-step.ensures.places (step-out _ _ c.rewind_next_chain-step.ensures.answer c.rewind_next_chain-step.ensures.state c.put_step.ensures)
