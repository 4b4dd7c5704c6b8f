-- Two outcomes that a function's contract permits are equal: the result, and every byte of the buffer at exit.
-- `Reads.Post` is the contract as the source states it, read as plain facts.
-- Assumes nothing.
use mathlib.Core.Path.{◌≡◌}
use Rattle.lists.proofs.Cases.{same}
use Rattle.saying.proofs.desk_header.Reads as desk-header
use Rattle.saying.proofs.desk_line.Reads as desk-line
use Rattle.saying.proofs.link_header.Reads as link-header
use Rattle.saying.proofs.end_word.Reads as end-word
use Rattle.saying.proofs.dropped_line.Reads as dropped_line
use Rattle.saying.proofs.bad_line.Reads as bad-line

pub desk_header_one : (κs : _) (a : _) (r r' : _) (s s' : _) → desk-header.Post κs a r s → desk-header.Post κs a r' s'
    → (r ≡ r') × (s.0.now ≡ s'.0.now)
desk_header_one κs a r r' s s' p q = (same p.0.0 q.0.0, same p.1 q.1)

pub desk_line_one : (κs : _) (a : _) (r r' : _) (s s' : _) → desk-line.Post κs a r s → desk-line.Post κs a r' s'
    → (r ≡ r') × (s.0.now ≡ s'.0.now)
desk_line_one κs a r r' s s' p q = (same p.0.0 q.0.0, same p.1 q.1)

pub link_header_one : (κs : _) (a : _) (r r' : _) (s s' : _) → link-header.Post κs a r s → link-header.Post κs a r' s'
    → (r ≡ r') × (s.0.now ≡ s'.0.now)
link_header_one κs a r r' s s' p q = (same p.0.0 q.0.0, same p.1 q.1)

pub end_word_one : (κs : _) (a : _) (r r' : _) (s s' : _) → end-word.Post κs a r s → end-word.Post κs a r' s'
    → (r ≡ r') × (s.0.now ≡ s'.0.now)
end_word_one κs a r r' s s' p q = (same p.0.0 q.0.0, same p.1 q.1)

pub dropped_line_one : (κs : _) (a : _) (r r' : _) (s s' : _) → dropped_line.Post κs a r s → dropped_line.Post κs a r' s'
    → (r ≡ r') × (s.0.now ≡ s'.0.now)
dropped_line_one κs a r r' s s' p q = (same p.0.0 q.0.0, same p.1 q.1)

pub bad_line_one : (κs : _) (a : _) (r r' : _) (s s' : _) → bad-line.Post κs a r s → bad-line.Post κs a r' s'
    → (r ≡ r') × (s.0.now ≡ s'.0.now)
bad_line_one κs a r r' s s' p q = (same p.0.0 q.0.0, same p.1 q.1)
