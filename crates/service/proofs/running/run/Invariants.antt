use Rattle.std.proofs.Common.{vec_items}
use Rattle.service.specs.Holds.{terms_of, lines_of}
use Rattle.service.proofs.Gone.{Gone}
use Rattle.service.proofs.running.run.Given as goal

-- the calls so far were replied by the terms of the opening, and the service is kept by them
abbrev pub invariant-loop-call : goal.invariant-loop-call
invariant-loop-call g l = Gone (terms_of l.initial.service) l.calls l.call-index (terms_of l.service) (lines_of l.service) (vec_items l.replies)
