-- One channel number between the two ends: what is on its way accounts for the difference. What is on its way to the shore is
-- taken there first; then what is on its way to the panel turns the panel's state into the shore's.
-- Assumes nothing.
use mathlib.Core.Path.{◌≡◌, refl}
use mathlib.Core.Bool.{Bool, true, false, not, false≢true}
use mathlib.Core.List.{List, [], ◌∷◌, ◌++◌}

-- how a number stands at the shore end
pub data Stand : Type 0 where
  Vacant Waits Opens : Stand

-- the PDUs of one number that matter: to the panel, a Create and a Close
pub data Down : Type 0 where
  Asks Ends : Down

-- to the shore, a Create response that opens, one that declines, and a Close
pub data Up : Type 0 where
  Yes No Over : Up

-- a Create response by whether it opens
abbrev pub says : Bool → Up
says true = Yes
says false = No

-- with nothing on its way to the shore; whether the panel has the number open comes second
abbrev pub base : Stand → Bool → List Down → Bool
base Vacant p [] = not p
base Vacant p (Ends ∷ q) = base Vacant false q
base Vacant p (Asks ∷ q) = false
base Opens p [] = p
base Opens p (d ∷ q) = false
base Waits p [] = false
base Waits p (Ends ∷ q) = base Waits false q
base Waits true (Asks ∷ q) = false
base Waits false (Asks ∷ []) = true
base Waits false (Asks ∷ d ∷ q) = false

-- a response comes only to an awaited number; a Close is passed by an awaited and by a vacant one
abbrev pub tie : Stand → Bool → List Down → List Up → Bool
tie s p q [] = base s p q
tie Vacant p q (Over ∷ r) = tie Vacant p q r
tie Vacant p q (Yes ∷ r) = false
tie Vacant p q (No ∷ r) = false
tie Opens p q (Over ∷ r) = tie Vacant p q r
tie Opens p q (Yes ∷ r) = false
tie Opens p q (No ∷ r) = false
tie Waits p q (Over ∷ r) = tie Waits p q r
tie Waits p q (Yes ∷ r) = tie Opens p q r
tie Waits p q (No ∷ r) = tie Vacant p q r

-- ---- nothing is on its way

-- open at the shore: an awaited number is not
abbrev pub stands : Stand → Bool
stands Vacant = false
stands Waits = false
stands Opens = true

-- both ends have it open or neither has, and it is not awaited
pub drained : (s : Stand) (p : Bool) → tie s p [] [] ≡ true → (stands s ≡ p) × (s ≡ Waits → false ≡ true)
drained Vacant true h = absurd (false≢true h)
drained Vacant false h = (refl, λ e. cc)
drained Opens true h = (refl, λ e. cc)
drained Opens false h = absurd (false≢true h)
drained Waits p h = absurd (false≢true h)

-- ---- the shore takes a PDU

-- how the number stands then
abbrev pub took : Stand → Up → Stand
took Vacant u = Vacant
took Opens Over = Vacant
took Opens Yes = Opens
took Opens No = Opens
took Waits Over = Waits
took Waits Yes = Opens
took Waits No = Vacant

-- the tie goes on
pub shore_takes_law :
    (s : Stand) (u : Up) (p : Bool) (q : List Down) (r : List Up) → tie s p q (u ∷ r) ≡ true → tie (took s u) p q r ≡ true
shore_takes_law Vacant Over p q r h = h
shore_takes_law Vacant Yes p q r h = absurd (false≢true h)
shore_takes_law Vacant No p q r h = absurd (false≢true h)
shore_takes_law Opens Over p q r h = h
shore_takes_law Opens Yes p q r h = absurd (false≢true h)
shore_takes_law Opens No p q r h = absurd (false≢true h)
shore_takes_law Waits Over p q r h = h
shore_takes_law Waits Yes p q r h = h
shore_takes_law Waits No p q r h = h

-- a Create response finds the number awaited
pub never_sixteen : (s : Stand) (ok : Bool) (p : Bool) (q : List Down) (r : List Up) → tie s p q (says ok ∷ r) ≡ true → s ≡ Waits
never_sixteen Vacant true p q r h = absurd (false≢true h)
never_sixteen Vacant false p q r h = absurd (false≢true h)
never_sixteen Opens true p q r h = absurd (false≢true h)
never_sixteen Opens false p q r h = absurd (false≢true h)
never_sixteen Waits ok p q r h = refl

-- ---- the shore's host

-- a Create behind what turns the panel's state into a vacant one
base_ask : (p : Bool) (q : List Down) → base Vacant p q ≡ true → base Waits p (q ++ (Asks ∷ [])) ≡ true
base_ask true [] h = absurd (false≢true h)
base_ask false [] h = refl
base_ask p (Ends ∷ q) h = base_ask false q h
base_ask p (Asks ∷ q) h = absurd (false≢true h)

-- a Close behind it
base_end : (p : Bool) (q : List Down) → base Vacant p q ≡ true → base Vacant p (q ++ (Ends ∷ [])) ≡ true
base_end p [] h = refl
base_end p (Ends ∷ q) h = base_end false q h
base_end p (Asks ∷ q) h = absurd (false≢true h)

-- opens
pub shore_asks : (p : Bool) (q : List Down) (r : List Up) → tie Vacant p q r ≡ true → tie Waits p (q ++ (Asks ∷ [])) r ≡ true
shore_asks p q [] h = base_ask p q h
shore_asks p q (Over ∷ r) h = shore_asks p q r h
shore_asks p q (Yes ∷ r) h = absurd (false≢true h)
shore_asks p q (No ∷ r) h = absurd (false≢true h)

-- a Close more, of a vacant number
vacant_ends : (p : Bool) (q : List Down) (r : List Up) → tie Vacant p q r ≡ true → tie Vacant p (q ++ (Ends ∷ [])) r ≡ true
vacant_ends p q [] h = base_end p q h
vacant_ends p q (Over ∷ r) h = vacant_ends p q r h
vacant_ends p q (Yes ∷ r) h = absurd (false≢true h)
vacant_ends p q (No ∷ r) h = absurd (false≢true h)

-- closes
pub shore_ends : (p : Bool) (q : List Down) (r : List Up) → tie Opens p q r ≡ true → tie Vacant p (q ++ (Ends ∷ [])) r ≡ true
shore_ends p [] [] h = refl
shore_ends p (d ∷ q) [] h = absurd (false≢true h)
shore_ends p q (Over ∷ r) h = vacant_ends p q r h
shore_ends p q (Yes ∷ r) h = absurd (false≢true h)
shore_ends p q (No ∷ r) h = absurd (false≢true h)

-- ---- the panel: what it sends comes behind all that is on its way to the shore

module _ (p p' : Bool) (q q' : List Down) (x : List Up) (e : (s : Stand) → base s p q ≡ true → tie s p' q' x ≡ true) where
  -- so it is enough to look at what comes to a shore with nothing else on its way
  behind : (s : Stand) (r : List Up) → tie s p q r ≡ true → tie s p' q' (r ++ x) ≡ true
  behind s [] h = e s h
  behind Vacant (Over ∷ r) h = behind Vacant r h
  behind Vacant (Yes ∷ r) h = absurd (false≢true h)
  behind Vacant (No ∷ r) h = absurd (false≢true h)
  behind Opens (Over ∷ r) h = behind Vacant r h
  behind Opens (Yes ∷ r) h = absurd (false≢true h)
  behind Opens (No ∷ r) h = absurd (false≢true h)
  behind Waits (Over ∷ r) h = behind Waits r h
  behind Waits (Yes ∷ r) h = behind Opens r h
  behind Waits (No ∷ r) h = behind Vacant r h

-- a Create finds the number not open
base_asked : (s : Stand) (q : List Down) → base s true (Asks ∷ q) ≡ true → false ≡ true
base_asked Vacant q h = h
base_asked Opens q h = h
base_asked Waits q h = h

-- whatever is on its way to the shore
pub never_nine : (s : Stand) (q : List Down) (r : List Up) → tie s true (Asks ∷ q) r ≡ true → false ≡ true
never_nine s q [] h = base_asked s q h
never_nine Vacant q (Over ∷ r) h = never_nine Vacant q r h
never_nine Vacant q (Yes ∷ r) h = h
never_nine Vacant q (No ∷ r) h = h
never_nine Opens q (Over ∷ r) h = never_nine Vacant q r h
never_nine Opens q (Yes ∷ r) h = h
never_nine Opens q (No ∷ r) h = h
never_nine Waits q (Over ∷ r) h = never_nine Waits q r h
never_nine Waits q (Yes ∷ r) h = never_nine Opens q r h
never_nine Waits q (No ∷ r) h = never_nine Vacant q r h

-- it says yes
base_yes : (q : List Down) (s : Stand) → base s false (Asks ∷ q) ≡ true → tie s true q (Yes ∷ []) ≡ true
base_yes q Vacant h = absurd (false≢true h)
base_yes q Opens h = absurd (false≢true h)
base_yes [] Waits h = refl
base_yes (d ∷ q) Waits h = absurd (false≢true h)

-- it says no
base_no : (q : List Down) (s : Stand) → base s false (Asks ∷ q) ≡ true → tie s false q (No ∷ []) ≡ true
base_no q Vacant h = absurd (false≢true h)
base_no q Opens h = absurd (false≢true h)
base_no [] Waits h = refl
base_no (d ∷ q) Waits h = absurd (false≢true h)

-- it replies to a Close
base_over : (q : List Down) (s : Stand) → base s true (Ends ∷ q) ≡ true → tie s false q (Over ∷ []) ≡ true
base_over q Vacant h = h
base_over q Opens h = absurd (false≢true h)
base_over q Waits h = h

-- it ignores a Close
base_idle : (q : List Down) (s : Stand) → base s false (Ends ∷ q) ≡ true → tie s false q [] ≡ true
base_idle q Vacant h = h
base_idle q Opens h = absurd (false≢true h)
base_idle q Waits h = h

-- it closes by itself
base_shut : (q : List Down) (s : Stand) → base s true q ≡ true → tie s false q (Over ∷ []) ≡ true
base_shut [] Vacant h = absurd (false≢true h)
base_shut (Ends ∷ q) Vacant h = h
base_shut (Asks ∷ q) Vacant h = absurd (false≢true h)
base_shut [] Opens h = refl
base_shut (d ∷ q) Opens h = absurd (false≢true h)
base_shut [] Waits h = absurd (false≢true h)
base_shut (Ends ∷ q) Waits h = h
base_shut (Asks ∷ q) Waits h = absurd (false≢true h)

-- takes a Create
pub panel_asked :
    (ok : Bool) (s : Stand) (q : List Down) (r : List Up) → tie s false (Asks ∷ q) r ≡ true → tie s ok q (r ++ (says ok ∷ [])) ≡ true
panel_asked true s q r h = behind false true (Asks ∷ q) q (Yes ∷ []) (base_yes q) s r h
panel_asked false s q r h = behind false false (Asks ∷ q) q (No ∷ []) (base_no q) s r h

-- takes a Close of a number that it has open, and of one that it has not
pub panel_ended : (s : Stand) (q : List Down) (r : List Up) → tie s true (Ends ∷ q) r ≡ true → tie s false q (r ++ (Over ∷ [])) ≡ true
panel_ended s q r h = behind true false (Ends ∷ q) q (Over ∷ []) (base_over q) s r h

-- and of one that it has not
pub panel_ignores : (s : Stand) (q : List Down) (r : List Up) → tie s false (Ends ∷ q) r ≡ true → tie s false q (r ++ []) ≡ true
panel_ignores s q r h = behind false false (Ends ∷ q) q [] (base_idle q) s r h

-- its host closes a number that it has open
pub panel_closes_law : (s : Stand) (q : List Down) (r : List Up) → tie s true q r ≡ true → tie s false q (r ++ (Over ∷ [])) ≡ true
panel_closes_law s q r h = behind true false q q (Over ∷ []) (base_shut q) s r h
