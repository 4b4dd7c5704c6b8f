-- What is on its way, read off the bytes: each PDU is an encoding of at most 1,600 bytes, and says something of one number or
-- nothing.
-- Assumes nothing.
use mathlib.Core.Path.{◌≡◌, refl, sym, ap, ◌∙◌}
use mathlib.Core.Logic.{◌≢◌}
use mathlib.Core.Bool.{Bool, true, false, not, cond}
use mathlib.Core.List.{List, [], ◌∷◌, ◌++◌, append_assoc, append-nil}
use Prim.Native.Nat.{ℕ, ◌≤◌}
use native.Mathlib.Omega.{arith}
use lib.Dec.{eqb}
use lib.ListN.{length}
use Rattle.paper.specs.Sizes.{PDU_MAX}
use Rattle.paper.specs.declared.Refusal.{Refusal}
use Rattle.reading.specs.Reading.{read_pdu}
use Rattle.reading.specs.declared.Pdu.TheVariants.{Refused}
use Rattle.reading.specs.Grammar.{Value, create_request_law, create_response_law, data_first_law, data_block, close}
use Rattle.reading.specs.Grammar.{capabilities_request, capabilities_response, Read, values, refusal, meant, read_as, Encodes}
use Rattle.reading.specs.Grammar.{create_request_is, create_response_is, data_first_is, data_is, close_is}
use Rattle.reading.specs.Grammar.{capabilities_1_is, capabilities_is, capabilities_response_is}
use Rattle.reading.proofs.Grammar.{every_encoding}
use Rattle.shore_demands.proofs.Values.{event_of_value as said_by}
use Rattle.shore.specs.Rules.{is_below_zero}
use Rattle.shore.specs.Events.{Event, Unreadable, Asking, Response, Opening, Of}
use Rattle.joined.specs.Ends.{post}
use Rattle.joined.specs.Joined.{OnItsWay, first, later}
use Rattle.joined.proofs.Ties.{Down, Asks, Ends, Up, Over, says}

-- ---- encodings on their way

pub record Sent (fromServer : Bool) (pdu : List ℕ) : Type 0 where
  pub value : Value
  pub encodes : Encodes fromServer value pdu
  pub short_enough : length pdu ≤ PDU_MAX

-- all of a queue
abbrev pub AllSent : Bool → List (List ℕ) → Type 0
AllSent dir [] = Unit {0}
AllSent dir (pdu ∷ queue) = Sent dir pdu × AllSent dir queue

-- two queues
pub sent_app : (dir : Bool) (a b : List (List ℕ)) → AllSent dir a → AllSent dir b → AllSent dir (a ++ b)
sent_app dir [] b x y = y
sent_app dir (pdu ∷ a) b x y = (x.0, sent_app dir a b x.1 y)

-- each is read as it says
pub is_read : {dir : Bool} {pdu : List ℕ} (s : Sent dir pdu) → read_as dir pdu ≡ values s.value
is_read {dir} {pdu} s = every_encoding dir s.value pdu s.encodes s.short_enough

-- and isn't refused in reading
pub not_refused : {dir : Bool} {pdu : List ℕ} → Sent dir pdu → (why : Refusal) → read_pdu dir pdu ≢ Refused why
unfolding read_as
not_refused {dir} {pdu} s why e = let r = sym (is_read s) ∙ ap (meant pdu) e in let z : ◌≡◌ {A = ℕ} 0 1 = cc in omega arith

-- one of a queue
pub one_sent : {dir : Bool} {pdu : List ℕ} {queue : List (List ℕ)} → OnItsWay pdu queue → AllSent dir queue → Sent dir pdu
one_sent first a = a.0
one_sent (later o) a = one_sent o a.1

-- ---- what they say, by a mark for each value

-- what is refused says nothing
abbrev pub marks_in : {A : Type 0} → (Value → List A) → Read → List A
marks_in of (values v) = of v
marks_in of (refusal why) = []

-- of a whole queue
abbrev pub marks : {A : Type 0} → Bool → (Value → List A) → List (List ℕ) → List A
marks dir of [] = []
marks dir of (pdu ∷ queue) = marks_in of (read_as dir pdu) ++ marks dir of queue

-- of two queues
pub marks_app : {A : Type 0} (dir : Bool) (of : Value → List A) (a b : List (List ℕ)) → marks dir of (a ++ b) ≡ marks dir of a ++ marks dir of b
marks_app dir of [] b = refl
marks_app dir of (pdu ∷ a) b = rw (marks_app dir of a b) (sym (append_assoc (marks_in of (read_as dir pdu)) (marks dir of a) (marks dir of b)))

-- the oldest says its value
pub marks_head :
    {A : Type 0} {dir : Bool} {pdu : List ℕ} (of : Value → List A) (s : Sent dir pdu) (queue : List (List ℕ))
    → marks dir of (pdu ∷ queue) ≡ of s.value ++ marks dir of queue
marks_head of s queue = rw (is_read s)

-- ---- what is posted

-- an encoding has a byte
pub posted : {dir : Bool} {v : Value} {bytes : List ℕ} → Encodes dir v bytes → (queue : List (List ℕ)) → post queue bytes ≡ queue ++ (bytes ∷ [])
posted (create_request_is code number pri name k p z e) queue = rw e
posted (create_response_is code sp number status k p z e) queue = rw e
posted (data_first_is dir code lengthCode number len block k q e) queue = rw e
posted (data_is dir code sp number block k p e) queue = rw e
posted (close_is dir code sp number k p e) queue = rw e
posted (capabilities_1_is sp p e) queue = rw e
posted (capabilities_is sp version charges p h k z e) queue = rw e
posted (capabilities_response_is sp version p h k e) queue = rw e

-- it comes behind all else
pub post_behind : (queue : List (List ℕ)) (bytes : List ℕ) → post queue bytes ≡ queue ++ post [] bytes
post_behind queue [] = sym (append-nil queue)
post_behind queue (b ∷ bytes) = refl

-- its marks come last
pub marks_post :
    {A : Type 0} (dir : Bool) (of : Value → List A) (queue : List (List ℕ)) (bytes : List ℕ)
    → marks dir of (post queue bytes) ≡ marks dir of queue ++ marks dir of (post [] bytes)
marks_post dir of queue bytes = ap (marks dir of) (post_behind queue bytes) ∙ marks_app dir of queue (post [] bytes)

-- it can be read too
pub sent_post : (dir : Bool) (queue : List (List ℕ)) (bytes : List ℕ) → AllSent dir queue → AllSent dir (post [] bytes) → AllSent dir (post queue bytes)
sent_post dir queue bytes a b = rw (post_behind queue bytes) (sent_app dir queue (post [] bytes) a b)

-- an encoding, posted
pub post_sent : {dir : Bool} {bytes : List ℕ} → Sent dir bytes → AllSent dir (post [] bytes)
post_sent s = rw (posted s.encodes []) (s, tt)

-- its mark is that of its value
pub post_says : {A : Type 0} {dir : Bool} {bytes : List ℕ} (of : Value → List A) (s : Sent dir bytes) → marks dir of (post [] bytes) ≡ of s.value
post_says {A} {dir} of s = ap (marks dir of) (posted s.encodes []) ∙ marks_head of s [] ∙ append-nil (of s.value)

-- one that says nothing so leaves the marks
pub post_silent :
    {A : Type 0} {dir : Bool} {bytes : List ℕ} (of : Value → List A) (queue : List (List ℕ)) (s : Sent dir bytes) → of s.value ≡ []
    → marks dir of (post queue bytes) ≡ marks dir of queue
post_silent {A} {dir} {bytes} of queue s e =
    marks_post dir of queue bytes ∙ ap (λ (l : List A). marks dir of queue ++ l) (post_says of s ∙ e) ∙ append-nil (marks dir of queue)

-- ---- the marks of one number, to the panel and to the shore

-- no mark, of the number or not
pub none_either : {A : Type 0} (t : Bool) → ◌≡◌ {A = List A} (cond t [] []) []
none_either true = refl
none_either false = refl

-- a Create or a Close of the number
abbrev pub down_of : ℕ → Value → List Down
down_of n (create_request_law m class name) = cond (eqb m n) (Asks ∷ []) []
down_of n (create_response_law m status) = []
down_of n (data_first_law m len block) = []
down_of n (data_block m block) = []
down_of n (close m) = cond (eqb m n) (Ends ∷ []) []
down_of n (capabilities_request version charges) = []
down_of n (capabilities_response version) = []

-- a Create response or a Close of the number
abbrev pub up_of : ℕ → Value → List Up
up_of n (create_request_law m class name) = []
up_of n (create_response_law m status) = cond (eqb m n) (says (not (is_below_zero status)) ∷ []) []
up_of n (data_first_law m len block) = []
up_of n (data_block m block) = []
up_of n (close m) = cond (eqb m n) (Over ∷ []) []
up_of n (capabilities_request version charges) = []
up_of n (capabilities_response version) = []

-- the version of a response
abbrev pub response_in : Event → List ℕ
response_in (Unreadable why) = []
response_in (Asking version charges) = []
response_in (Response version) = version ∷ []
response_in (Opening name class) = []
response_in (Of n d) = []

-- in a value
abbrev pub response_of : Value → List ℕ
response_of v = response_in (said_by v)

-- on their way to the panel
abbrev pub downs : ℕ → List (List ℕ) → List Down
downs n queue = marks true (down_of n) queue

-- on their way to the shore
abbrev pub ups : ℕ → List (List ℕ) → List Up
ups n queue = marks false (up_of n) queue

-- Capabilities responses on their way
abbrev pub responses : List (List ℕ) → List ℕ
responses queue = marks false response_of queue
