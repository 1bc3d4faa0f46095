use Rattle.dim_vm.proofs.Exports.{yield_yields}
use Rattle.run_tests.proofs.fake.is_yield.Goals as goal

pub returns-in-Yield : goal.returns-in-Yield
returns-in-Yield c = λ _ t by h. yield_yields t _ _ _ _ _ _ h c.in-Yield.is by
