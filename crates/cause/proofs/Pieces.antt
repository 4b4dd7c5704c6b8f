-- What is said of a place is the same however the input is cut into reads.
-- Assumes nothing.
use Rattle.std.proofs.Common.{◌≡◌, ℕ, List, [], ap}
use Rattle.records.specs.Items.{Stood, all_of}
use Rattle.records.specs.Records.{pdu_in}
use Rattle.records.proofs.Records.{whole_framing}
use Rattle.records.proofs.Items.{however_cut}
use Rattle.records.proofs.Pdus.{none_at_first}
use Rattle.cause.specs.Cause.{Way, way_after, start_way, said_of, said_in_pieces}

pub in_pieces : (sought : ℕ) (list : List ℕ) (pieces : List (List ℕ)) → said_in_pieces sought list pieces ≡ said_of sought list (all_of pieces)
unfolding said_in_pieces said_of
in_pieces sought list pieces =
    ap (λ (at : Stood Way). at.kept.course.said) (however_cut whole_framing pdu_in (way_after sought list) start_way [] pieces none_at_first)
