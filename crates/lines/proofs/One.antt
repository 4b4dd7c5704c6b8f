-- Two outcomes that a function's contract permits are equal: the result, and every byte of the buffer at exit.
-- `Reads.Post` is the contract as the source states it, read as plain facts.
-- Assumes nothing.
use mathlib.Core.Path.{◌≡◌}
use mathlib.Core.List.{List}
use Prim.Native.Nat.{ℕ}
use Rattle.lists.proofs.Cases.{same}
use Rattle.lines.specs.declared.Pen.{Pen}
use Rattle.lines.specs.Pen.{Lays}
use Rattle.lines.proofs.field.Reads as field
use Rattle.lines.proofs.text.Reads as text
use Rattle.lines.proofs.channel.Reads as channel
use Rattle.lines.proofs.header.Reads as header
use Rattle.lines.proofs.answer.Reads as answer
use Rattle.lines.proofs.line.Reads as line
use Rattle.lines.proofs.answer_line.Reads as answer-line
use Rattle.lines.proofs.placed.Reads as placed
use Rattle.lines.proofs.cut_line.Reads as cut-Line
use Rattle.lines.proofs.message_line.Reads as message-line
use Rattle.lines.proofs.hex_byte.Reads as hex-byte
use Rattle.lines.proofs.bytes_field.Reads as bytes-field
use Rattle.lines.proofs.reading_header.Reads as reading-header
use Rattle.lines.proofs.refused.Reads as refused
use Rattle.lines.proofs.reading_line.Reads as reading-line
use Rattle.lines.proofs.totals_header.Reads as totals-header
use Rattle.lines.proofs.totals_line.Reads as totals-line
use Rattle.lines.proofs.Pen.text.Reads as pen-text
use Rattle.lines.proofs.Pen.field.Reads as pen-field
use Rattle.lines.proofs.Pen.channel.Reads as pen-channel
use Rattle.lines.proofs.Pen.answer.Reads as pen-answer
use Rattle.lines.proofs.Pen.bytes.Reads as pen-bytes
use Rattle.lines.proofs.Pen.refused.Reads as pen-refused

pub field_one : (κs : _) (a : _) (r r' : _) (s s' : _) → field.Post κs a r s → field.Post κs a r' s'
    → (r ≡ r') × (s.0.now ≡ s'.0.now)
field_one κs a r r' s s' p q = (same p.0.0 q.0.0, same p.1 q.1)

pub text_one : (κs : _) (a : _) (r r' : _) (s s' : _) → text.Post κs a r s → text.Post κs a r' s'
    → (r ≡ r') × (s.0.now ≡ s'.0.now)
text_one κs a r r' s s' p q = (same p.0 q.0, same p.1 q.1)

pub channel_one : (κs : _) (a : _) (r r' : _) (s s' : _) → channel.Post κs a r s → channel.Post κs a r' s'
    → (r ≡ r') × (s.0.now ≡ s'.0.now)
channel_one κs a r r' s s' p q = (same p.0.0 q.0.0, same p.1 q.1)

pub header_one : (κs : _) (a : _) (r r' : _) (s s' : _) → header.Post κs a r s → header.Post κs a r' s'
    → (r ≡ r') × (s.0.now ≡ s'.0.now)
header_one κs a r r' s s' p q = (same p.0.0 q.0.0, same p.1 q.1)

pub answer_one : (κs : _) (a : _) (r r' : _) (s s' : _) → answer.Post κs a r s → answer.Post κs a r' s'
    → (r ≡ r') × (s.0.now ≡ s'.0.now)
answer_one κs a r r' s s' p q = (same p.0.0 q.0.0, same p.1 q.1)

pub answer_line_one : (κs g h b c e d l a : _) (r r' : _) (s s' : _) → answer-line.Post κs g h b c e d l a r s → answer-line.Post κs g h b c e d l a r' s'
    → (r ≡ r') × (s.0.now ≡ s'.0.now)
answer_line_one κs g h b c e d l a r r' s s' p q = (same p.0.0 q.0.0, same p.1 q.1)

pub line_one : (κs : _) (a : _) (r r' : _) (s s' : _) → line.Post κs a r s → line.Post κs a r' s'
    → (r ≡ r') × (s.0.now ≡ s'.0.now)
line_one κs a r r' s s' p q = (same p.0.0 q.0.0, same p.1 q.1)

pub placed_one : (κs : _) (a : _) (r r' : _) (s s' : _) → placed.Post κs a r s → placed.Post κs a r' s'
    → (r ≡ r') × (s.0.now ≡ s'.0.now)
placed_one κs a r r' s s' p q = (same p.0.0 q.0.0, same p.1 q.1)

pub cut_line_one : (κs : _) (a : _) (r r' : _) (s s' : _) → cut-Line.Post κs a r s → cut-Line.Post κs a r' s'
    → (r ≡ r') × (s.0.now ≡ s'.0.now)
cut_line_one κs a r r' s s' p q = (same p.0.0 q.0.0, same p.1 q.1)

pub message_line_one : (κs : _) (a : _) (r r' : _) (s s' : _) → message-line.Post κs a r s → message-line.Post κs a r' s'
    → (r ≡ r') × (s.0.now ≡ s'.0.now)
message_line_one κs a r r' s s' p q = (same p.0.0 q.0.0, same p.1 q.1)

pub hex_byte_one : (κs : _) (a : _) (r r' : _) (s s' : _) → hex-byte.Post κs a r s → hex-byte.Post κs a r' s' → r ≡ r'
hex_byte_one κs a r r' s s' p q = same p q

pub bytes_field_one : (κs : _) (a : _) (r r' : _) (s s' : _) → bytes-field.Post κs a r s → bytes-field.Post κs a r' s'
    → (r ≡ r') × (s.0.now ≡ s'.0.now)
bytes_field_one κs a r r' s s' p q = (same p.0.0 q.0.0, same p.1 q.1)

pub reading_header_one : (κs : _) (a : _) (r r' : _) (s s' : _) → reading-header.Post κs a r s → reading-header.Post κs a r' s'
    → (r ≡ r') × (s.0.now ≡ s'.0.now)
reading_header_one κs a r r' s s' p q = (same p.0.0 q.0.0, same p.1 q.1)

pub refused_one : (κs : _) (a : _) (r r' : _) (s s' : _) → refused.Post κs a r s → refused.Post κs a r' s'
    → (r ≡ r') × (s.0.now ≡ s'.0.now)
refused_one κs a r r' s s' p q = (same p.0.0 q.0.0, same p.1 q.1)

pub reading_line_one : (κs : _) (a : _) (r r' : _) (s s' : _) → reading-line.Post κs a r s → reading-line.Post κs a r' s'
    → (r ≡ r') × (s.0.now ≡ s'.0.now)
reading_line_one κs a r r' s s' p q = (same p.0.0 q.0.0, same p.1 q.1)

pub totals_header_one : (κs : _) (a : _) (r r' : _) (s s' : _) → totals-header.Post κs a r s → totals-header.Post κs a r' s'
    → (r ≡ r') × (s.0.now ≡ s'.0.now)
totals_header_one κs a r r' s s' p q = (same p.0.0 q.0.0, same p.1 q.1)

pub totals_line_one : (κs : _) (a : _) (r r' : _) (s s' : _) → totals-line.Post κs a r s → totals-line.Post κs a r' s'
    → (r ≡ r') × (s.0.now ≡ s'.0.now)
totals_line_one κs a r r' s s' p q = (same p.0.0 q.0.0, same p.1 q.1)

-- ---- the pen: its buffer, every byte, and its place

wrote_one : {old new new' : Pen} {t : List ℕ} {m : ℕ} → Lays old new t m → Lays old new' t m → (new.out.now ≡ new'.out.now) × (new.at ≡ new'.at)
wrote_one p q = (same p.out q.out, same p.at q.at)

pub pen_text_one : (κs : _) (a : _) (r r' : _) (s s' : _) → pen-text.Post κs a r s → pen-text.Post κs a r' s'
    → (s.0.now.out.now ≡ s'.0.now.out.now) × (s.0.now.at ≡ s'.0.now.at)
pen_text_one κs a r r' s s' p q = wrote_one p q

pub pen_field_one : (κs : _) (a : _) (r r' : _) (s s' : _) → pen-field.Post κs a r s → pen-field.Post κs a r' s'
    → (s.0.now.out.now ≡ s'.0.now.out.now) × (s.0.now.at ≡ s'.0.now.at)
pen_field_one κs a r r' s s' p q = wrote_one p q

pub pen_channel_one : (κs : _) (a : _) (r r' : _) (s s' : _) → pen-channel.Post κs a r s → pen-channel.Post κs a r' s'
    → (s.0.now.out.now ≡ s'.0.now.out.now) × (s.0.now.at ≡ s'.0.now.at)
pen_channel_one κs a r r' s s' p q = wrote_one p q

pub pen_answer_one : (κs g h b c e d l a : _) (r r' : _) (s s' : _) → pen-answer.Post κs g h b c e d l a r s → pen-answer.Post κs g h b c e d l a r' s'
    → (s.0.now.out.now ≡ s'.0.now.out.now) × (s.0.now.at ≡ s'.0.now.at)
pen_answer_one κs g h b c e d l a r r' s s' p q = wrote_one p q

pub pen_bytes_one : (κs : _) (a : _) (r r' : _) (s s' : _) → pen-bytes.Post κs a r s → pen-bytes.Post κs a r' s'
    → (s.0.now.out.now ≡ s'.0.now.out.now) × (s.0.now.at ≡ s'.0.now.at)
pen_bytes_one κs a r r' s s' p q = wrote_one p q

pub pen_refused_one : (κs : _) (a : _) (r r' : _) (s s' : _) → pen-refused.Post κs a r s → pen-refused.Post κs a r' s'
    → (s.0.now.out.now ≡ s'.0.now.out.now) × (s.0.now.at ≡ s'.0.now.at)
pen_refused_one κs a r r' s s' p q = wrote_one p q
