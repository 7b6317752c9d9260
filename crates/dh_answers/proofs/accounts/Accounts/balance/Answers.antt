use Rattle.std.proofs.Common.{arith}
use Rattle.std.proofs.lemmas.Int.{ints}
use Rattle.dh_answers.proofs.accounts.Accounts.balance.Goals as goal

pub overflow_cast-charged : goal.overflow_cast-charged
overflow_cast-charged c = omega (arith, ints, c.args.self.now.charged_fit c.args.lease)

pub overflow_cast-paid : goal.overflow_cast-paid
overflow_cast-paid c = omega (arith, ints, c.args.self.now.paid_fit c.args.lease)

pub overflow_sub-charged : goal.overflow_sub-charged
overflow_sub-charged c = omega (arith, ints, c.args.self.now.charged_fit c.args.lease, c.args.self.now.paid_fit c.args.lease)

pub returns-clause-range : goal.returns-clause-range
returns-clause-range c = omega (arith, ints, c.args.self.now.charged_fit c.args.lease, c.args.self.now.paid_fit c.args.lease)
