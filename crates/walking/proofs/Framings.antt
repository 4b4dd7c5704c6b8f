-- What a record is to each job is a framing.
-- Assumes nothing.
use Rattle.std.proofs.Common.{ℕ, List}
use Rattle.records.specs.Walks.{Framing}
use Rattle.records.proofs.Records.{whole_framing}
use Rattle.records.proofs.Desk.{desk_framing, link_framing}
use Rattle.records.proofs.Pieces.{Framed}
use Rattle.walking.specs.declared.Job.{Job}
use Rattle.walking.specs.declared.Job.TheVariants.{Client, Strict, Desk, Link}
use Rattle.walking.specs.Walking.{extent_for, program}

pub by_job : (job : Job) → Framing (extent_for job)
unfolding extent_for
by_job (Client told) = whole_framing
by_job (Strict fromServer) = whole_framing
by_job Desk = desk_framing
by_job Link = link_framing

pub framed : (job : Job) (list : List ℕ) → Framed (program job list)
unfolding program
framed job list = by_job job
