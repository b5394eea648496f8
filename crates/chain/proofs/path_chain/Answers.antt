-- By whether the tests pass.
use native.Mathlib.Omega.{arith}
use Rattle.chain.specs.Settings.{depth}
use Rattle.chain.proofs.CallLaws.{tests-fail, tests-pass, chain-traced, chain-refused, chain-listed}
use Rattle.base.proofs.RefusalLaws.{handed-on}
use Rattle.chain.proofs.path_chain.Goals as goal

pub returns-in_err-check : goal.returns-in_err-check
returns-in_err-check c = rw (handed-on _ c.from_residual.ensures.1) (chain-refused _ _ _ _ _ (tests-fail _ _ _ _ c.check.ensures c.in_err-check.was))

pub list_chain-requires : goal.list_chain-requires
list_chain-requires c = let a = c.args in omega (arith, (chain-traced _ _ _ _ (tests-pass _ _ depth a.key c.check.ensures c.in_ok-check.was)).fits)

pub returns : goal.returns
returns c = chain-listed _ _ _ _ _ (tests-pass _ _ _ _ c.check.ensures c.in_ok-check.was) c.list_chain.ensures.value c.list_chain.ensures.list_after
