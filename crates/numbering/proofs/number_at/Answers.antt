use native.Mathlib.Omega.{arith}
use borrow.Author.Rules.{rules}
use Rattle.numbering.proofs.NumberLoop.{seeking}
use Rattle.walking.proofs.Passing.{passing_all}
use Rattle.numbering.proofs.number_at.Goals as goal

pub returns : goal.returns
returns c = search (seeking, rules)

pub packed-requires : goal.packed-requires
packed-requires c = search (seeking, rules)

pub returns-then-n-j : goal.returns-then-n-j
returns-then-n-j c = search (seeking, rules)

pub candidates-preserved : goal.candidates-preserved
candidates-preserved c = (search rules, search (seeking, rules))

pub candidates-init : goal.candidates-init
candidates-init c = (search rules, record { passes = passing_all c.args.step.now.search.now.ready c.first-next.ensures; before = omega arith })
