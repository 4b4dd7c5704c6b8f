-- Two outcomes that a function's contract permits are equal: the result, or every byte of the state at exit.
-- `Reads.Post` is the contract as the source states it, read as plain facts.
-- Assumes nothing.
use mathlib.Core.Path.{◌≡◌}
use Rattle.lists.proofs.Cases.{same}
use Rattle.saved.proofs.good.Reads as good-reads
use Rattle.saved.proofs.headed.Reads as headed-reads
use Rattle.saved.proofs.read_head.Reads as read-head-reads
use Rattle.saved.proofs.find.Reads as find-reads
use Rattle.saved.proofs.put.Reads as put_reads
use Rattle.saved.proofs.ask.Reads as ask-reads
use Rattle.saved.proofs.begin.Reads as begin-reads

pub good_one : (κs : _) (a : _) (r r' : _) (s s' : _) → good-reads.Post κs a r s → good-reads.Post κs a r' s' → r ≡ r'
good_one κs a r r' s s' p q = same p q

pub headed_one : (κs : _) (a : _) (r r' : _) (s s' : _) → headed-reads.Post κs a r s → headed-reads.Post κs a r' s' → r ≡ r'
headed_one κs a r r' s s' p q = same p q

pub read_head_one : (κs : _) (a : _) (r r' : _) (s s' : _) → read-head-reads.Post κs a r s → read-head-reads.Post κs a r' s' → r ≡ r'
read_head_one κs a r r' s s' p q = same p q

pub find_one : (κs : _) (a : _) (r r' : _) (s s' : _) → find-reads.Post κs a r s → find-reads.Post κs a r' s' → r ≡ r'
find_one κs a r r' s s' p q = same p q

pub put_one : (κs : _) (a : _) (r r' : _) (s s' : _) → put_reads.Post κs a r s → put_reads.Post κs a r' s' → s.0.now ≡ s'.0.now
put_one κs a r r' s s' p q = same p q

pub ask_one : (κs : _) (a : _) (r r' : _) (s s' : _) → ask-reads.Post κs a r s → ask-reads.Post κs a r' s' → s.0.now ≡ s'.0.now
ask_one κs a r r' s s' p q = same p q

pub begin_one : (κs : _) (a : _) (r r' : _) (s s' : _) → begin-reads.Post κs a r s → begin-reads.Post κs a r' s' → s.0.now ≡ s'.0.now
begin_one κs a r r' s s' p q = same p q
