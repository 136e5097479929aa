-- A stored packet that carries a table or a part of one leaves nothing to be noted.
use Rattle.mmt_headline.proofs.Sound.{casts-carry, found-sent, messages-sent, sound}
use Rattle.std.proofs.Common.{◌≡◌, ℕ, ◌+◌, ◌<◌, ◌≤◌, zero, suc, Bool, true, false, ◌&&◌, ◌==◌, nat_eq, cond, List, [], ◌∷◌, ◌++◌, map, length, get_or, None, arith, filter, refl, sym, ap, subst, ◌∙◌, true≢false}
use Rattle.std.specs.Cmp.Lexicographic.{pointwise}
use Rattle.std.specs.List.{AllByRecursion, flat_map, list_all}
use Rattle.std.proofs.lemmas.Bool.{and_from, eq-eqb, le-leb, ne_eqb}
use Rattle.std.proofs.lemmas.List.{append-nil}
use Rattle.mmt_base.specs.Ticks.{low}
use Rattle.mmt_cast.specs.Right.{IsMessage, signal_at}
use Rattle.mmt_delivery.specs.Laws.{IsReceiver}
use Rattle.mmt_delivery.specs.Tables.{IsAmong, IsOfCopy, MessagesAreSent, NamesAreLearned}
use Rattle.mmt_delivery.proofs.Carried.{signal-is}
use Rattle.mmt_sent.specs.Messages.{message_bytes}
use Rattle.mmt_model.specs.Admission.{fault}
use Rattle.mmt_model.specs.Broadcast.{no_entry}
use Rattle.mmt_model.specs.Carrying.{Contents, IsCastOf, IsInItsPlace, copy_place, numbers, packets_of, payload_carried, role, table_copy}
use Rattle.mmt_model.specs.Delivery.{NearDelivery, newest_first, start_of}
use Rattle.mmt_model.specs.Entries.{Entry, entries, is_of_same_mpu, learn, names_if_stored}
use Rattle.mmt_model.specs.Keeping.{Outcome, kept}
use Rattle.mmt_model.specs.Packets.{Heard, Payload}
use Rattle.mmt_model.specs.Sessions.{clock_of, outcome_at, start_of as start_of_session}
use Rattle.mmt_model.specs.Survival.{AreOf, SentPackets, heard_of, no_packet}
use Rattle.mmt_model.specs.Units.{Message, joined, message_by, names_of}
use Rattle.mmt_model.specs.declared.casts.Carries.{Carries}
use Rattle.mmt_model.specs.declared.casts.Cast.{Cast}
use Rattle.mmt_model.specs.declared.programmes.Params.{Params}
use Rattle.mmt_model.specs.declared.programmes.Programme.{Programme}
use Rattle.mmt_model.specs.declared.programmes.Signal.{Signal}
use Rattle.mmt_model.proofs.Newest.{newest_more}
use Rattle.mmt_model.proofs.Sessions.{entries_next}
use Rattle.mmt_pace.proofs.Delivered.{its-right}
use Rattle.mmt_naming.specs.Findings.{Finding, Naming, Remark, findings_by, findings_from, findings_in, findings_of_joined, names_among, names_in, notes_of}
use Rattle.mmt_naming.proofs.Names.{names_of_packet}
use Rattle.mmt_recv.specs.Session.{kept_by, live_of}
use Rattle.mmt_runs.specs.Messages.{messages_on, messages_with, is_part, is_short}
use Rattle.mmt_headline.proofs.Turned.{turned-twice}
use Rattle.mmt_times.specs.Learning.{has_same_times}
use Rattle.mmt_tune.specs.Tuning.{rules_by}
use Rattle.mmt_tune.specs.declared.config.Config.{Config}
use Rattle.mmt_headline.specs.Programmes.{IsSendable, Receives}
use Rattle.mmt_headline.proofs.Told.{has_table}
use Rattle.mmt_sent.specs.Stream.{contents_sent}
use Rattle.mmt_headline.proofs.Keeping.{start-turned}
use Rattle.mmt_headline.proofs.Learned.{Agrees, IsLearned, names-quiet}
use Rattle.mmt_headline.proofs.Peaks.{became, outcome-is, turned-one}
use Rattle.mmt_headline.proofs.Received.{is-receiver}
use Rattle.mmt_model.specs.declared.casts.Carries.TheVariants as carries
use Rattle.mmt_model.specs.declared.keys.Part.TheVariants as part
use Rattle.mmt_model.specs.declared.programmes.Signal.TheVariants as signals

-- ---- findings that are all names of message 0

abbrev is_name : Finding → Bool
is_name (Remark note) = false
is_name (Naming message e) = message == 0

abbrev are_names : List Finding → Bool
are_names fs = list_all is_name fs

names-alone : (es : List Entry) → are_names (map (Naming 0) es) ≡ true
names-alone [] = refl
names-alone (e ∷ es) = names-alone es

both-names : (fs gs : List Finding) → are_names fs ≡ true → are_names gs ≡ true → are_names (fs ++ gs) ≡ true
both-names [] gs f g = g
both-names (x ∷ fs) gs f g = go (is_name x) f (λ h. both-names fs gs h g)
  where
    go : (b : Bool) → (b && are_names fs) ≡ true → (are_names fs ≡ true → are_names (fs ++ gs) ≡ true) → (b && are_names (fs ++ gs)) ≡ true
    go true h later = later h
    go false h later = absurd cc

as-names : (fs : List Finding) → are_names fs ≡ true → fs ≡ map (Naming 0) (names_among fs)
as-names [] h = refl
as-names (Remark note ∷ fs) h = absurd cc
as-names (Naming zero e ∷ fs) h = ap (λ (gs : List Finding). Naming 0 e ∷ gs) (as-names fs h)
as-names (Naming (suc m) e ∷ fs) h = absurd (true≢false (sym h ∙ ap (λ (b : Bool). b && are_names fs) (ne_eqb (suc m) 0 (omega arith))))

-- ---- the messages of a programme

told-message : (timescale : ℕ) (programme : Programme) (cast : Cast) (files : ℕ → List ℕ) (s : ℕ) → IsSendable programme cast files → s < length programme.signals → are_names (findings_in timescale programme.params 0 (message_bytes programme s)) ≡ true
told-message timescale programme cast files s ok l = ap are_names ((found-sent timescale programme cast files ok s l).findings 0) ∙ names-alone (names_in timescale (message_bytes programme s))

-- ---- each table copy of its cast: were there anything but names in it, it would have one name more by these names than by the right ones

abbrev marked_by : Bool → List Entry → List Entry
marked_by true es = es
marked_by false es = no_entry ∷ es

abbrev marked : ℕ → Params → List ℕ → List Entry
marked timescale tuned bytes = marked_by (are_names (findings_in timescale tuned 0 bytes)) (names_in timescale bytes)

marked-message : (timescale : ℕ) (programme : Programme) (signal : Signal) (bytes : List ℕ) → are_names (findings_in timescale programme.params 0 bytes) ≡ true → IsMessage programme (names_in timescale) signal bytes → IsMessage programme (marked timescale programme.params) signal bytes
marked-message timescale programme (signals.Parameters at) bytes e is = (is.0, ap (λ (b : Bool). marked_by b (names_in timescale bytes)) e ∙ is.1)
marked-message timescale programme (signals.Table at names) bytes e is = (is.0, ap (λ (b : Bool). marked_by b (names_in timescale bytes)) e ∙ is.1)

not-marked : (b : Bool) (es : List Entry) → marked_by b es ≡ es → b ≡ true
not-marked true es e = refl
not-marked false es e = absurd (let l : suc (length es) ≡ length es = ap length e in omega (arith, l))

-- the bytes of a table copy
abbrev bytes_of_copy : Programme → Cast → (ℕ → List ℕ) → ℕ → List ℕ
bytes_of_copy programme cast files c = joined (map ((contents_sent programme files).message_part (table_copy cast c).signal) (numbers 0 (table_copy cast c).count))

copy-told : (timescale : ℕ) (programme : Programme) (cast : Cast) (files : ℕ → List ℕ) (c : ℕ) → IsSendable programme cast files → c < length cast.copies → are_names (findings_in timescale programme.params 0 (bytes_of_copy programme cast files c)) ≡ true
copy-told timescale programme cast files c ok l =
    let right : IsCastOf cast (contents_sent programme files) (names_in timescale) = casts-carry timescale programme cast files ok in
    let other : IsCastOf cast (contents_sent programme files) (marked timescale programme.params) =
    its-right programme cast files (message_bytes programme) (marked timescale programme.params) ok.of (sound programme cast files ok).right
    (λ s ls. marked-message timescale programme (signal_at programme s) (message_bytes programme s) (told-message timescale programme cast files s ok ls) (messages-sent timescale programme cast files ok s ls)) ok.none in
    not-marked _ (names_in timescale (bytes_of_copy programme cast files c)) (sym (other.copy c l).names ∙ (right.copy c l).names)

-- ---- a message in parts

joined-told : (timescale : ℕ) (programme : Programme) (cast : Cast) (files : ℕ → List ℕ) (m : Message) → IsSendable programme cast files → IsOfCopy cast (contents_sent programme files) m → are_names (findings_of_joined timescale programme.params m) ≡ true
joined-told timescale programme cast files m ok is =
    let short : length m.bytes ≤ 131072 = omega (arith, ((casts-carry timescale programme cast files ok).copy is.0 is.1).short, ap length is.2) in
    let told : are_names (findings_in timescale programme.params 0 m.bytes) ≡ true = ap (λ (b : List ℕ). are_names (findings_in timescale programme.params 0 b)) is.2 ∙ copy-told timescale programme cast files is.0 ok is.1 in
    go (is_short m) (le-leb (length m.bytes) 131072 short) told _
  where
    go : (b : Bool) → b ≡ true → are_names (findings_in timescale programme.params 0 m.bytes) ≡ true → (rest : List Finding) → are_names (cond b (findings_in timescale programme.params 0 m.bytes) rest) ≡ true
    go true e told rest = told
    go false e told rest = absurd cc

all-joined-told : (timescale : ℕ) (programme : Programme) (cast : Cast) (files : ℕ → List ℕ) (ms : List Message) → IsSendable programme cast files → AllByRecursion (IsOfCopy cast (contents_sent programme files)) ms → are_names (flat_map (findings_of_joined timescale programme.params) ms) ≡ true
all-joined-told timescale programme cast files [] ok h = refl
all-joined-told timescale programme cast files (m ∷ ms) ok h = both-names (findings_of_joined timescale programme.params m) (flat_map (findings_of_joined timescale programme.params) ms) (joined-told timescale programme cast files m ok h.0) (all-joined-told timescale programme cast files ms ok h.1)

each-passing : {X : Type 0} (P : X → Type 0) (test : X → Bool) (xs : List X) → AllByRecursion P xs → AllByRecursion P (filter test xs)
each-passing P test [] h = tt
each-passing {X} P test (x ∷ xs) h = go (test x) (each-passing P test xs h.1)
  where
    go : (b : Bool) → AllByRecursion P (filter test xs) → AllByRecursion P (cond b (x ∷ filter test xs) (filter test xs))
    go true later = (h.0, later)
    go false later = later

each-back : {X : Type 0} (P : X → Type 0) (xs ys : List X) → AllByRecursion P (xs ++ ys) → AllByRecursion P ys
each-back P [] ys h = h
each-back P (x ∷ xs) ys h = each-back P xs ys h.1

each-front : {X : Type 0} (P : X → Type 0) (xs ys : List X) → AllByRecursion P (xs ++ ys) → AllByRecursion P xs
each-front P [] ys h = tt
each-front P (x ∷ xs) ys h = (h.0, each-front P xs ys h.1)

each-join : {X : Type 0} (P : X → Type 0) (xs ys : List X) → AllByRecursion P xs → AllByRecursion P ys → AllByRecursion P (xs ++ ys)
each-join P [] ys h k = k
each-join P (x ∷ xs) ys h k = (h.0, each-join P xs ys h.1 k)

-- of those that some of the items give
each-of-some : {X Y : Type 0} (P : Y → Type 0) (test : X → Bool) (f : X → List Y) (xs : List X) → AllByRecursion P (flat_map f xs) → AllByRecursion P (flat_map (λ x. cond (test x) (f x) []) xs)
each-of-some P test f [] h = tt
each-of-some {X} {Y} P test f (x ∷ xs) h = go (test x) (each-of-some P test f xs (each-back P (f x) (flat_map f xs) h))
  where
    go : (b : Bool) → AllByRecursion P (flat_map (λ x. cond (test x) (f x) []) xs) → AllByRecursion P (cond b (f x) [] ++ flat_map (λ x. cond (test x) (f x) []) xs)
    go true later = each-join P (f x) (flat_map (λ x. cond (test x) (f x) []) xs) (each-front P (f x) (flat_map f xs) h) later
    go false later = later

-- the messages in parts of kept packets are of the cast
abbrev AreOfCopies : Programme → Cast → (ℕ → List ℕ) → List Heard → Type 0
AreOfCopies programme cast files kept = AllByRecursion (IsOfCopy cast (contents_sent programme files)) (flat_map (λ p. message_by kept p p.payload) kept)

parts-told : (timescale : ℕ) (programme : Programme) (cast : Cast) (files : ℕ → List ℕ) (kept : List Heard) (packet_id number : ℕ) → IsSendable programme cast files → AreOfCopies programme cast files kept
    → are_names (flat_map (findings_of_joined timescale programme.params) (messages_with kept packet_id number)) ≡ true
unfolding messages_with messages_on
parts-told timescale programme cast files kept packet_id number ok h =
    let P : Message → Type 0 = IsOfCopy cast (contents_sent programme files) in
    all-joined-told timescale programme cast files (messages_with kept packet_id number) ok
    (each-passing P (is_part number) (messages_on kept packet_id) (each-of-some P (λ (p : Heard). p.packet_id == packet_id) (λ (p : Heard). message_by kept p p.payload) kept h))

-- ---- a packet with a table or a part of one

payload-told : (timescale : ℕ) (programme : Programme) (cast : Cast) (files : ℕ → List ℕ) (kept : List Heard) (h : Heard) (n : ℕ) → IsSendable programme cast files → AreOfCopies programme cast files kept → n < length cast.packets
    → (c : Carries) → (get_or cast.packets n no_packet).carries ≡ c → has_table c ≡ true → are_names (findings_by timescale programme.params kept h (payload_carried cast (contents_sent programme files) c)) ≡ true
unfolding payload_carried role findings_from numbers
payload-told timescale programme cast files kept h n ok all l (carries.Whole u) is e = absurd cc
payload-told timescale programme cast files kept h n ok all l (carries.Fragment u k) is e = absurd cc
payload-told timescale programme cast files kept h n ok all l (carries.Group f c) is e = absurd cc
payload-told timescale programme cast files kept h n ok all l (carries.Parameters s) is e = absurd cc
payload-told timescale programme cast files kept h n ok all l (carries.Table s) is e =
    let contents : Contents = contents_sent programme files in
    let c : ℕ = copy_place cast.copies s in
    let place = subst (IsInItsPlace cast contents (get_or cast.packets n no_packet).packet_id (get_or cast.packets n no_packet).number) is ((casts-carry timescale programme cast files ok).packet n l) in
    let one : bytes_of_copy programme cast files c ≡ joined (map (contents.message_part s) (numbers 0 1)) =
    ap (λ (t : ℕ). joined (map (contents.message_part t) (numbers 0 (table_copy cast c).count))) (signal-is cast s place.0) ∙ ap (λ (m : ℕ). joined (map (contents.message_part s) (numbers 0 m))) place.3 in
    let whole : bytes_of_copy programme cast files c ≡ contents.message_part s 0 = one ∙ append-nil (contents.message_part s 0) in
    both-names (findings_in timescale programme.params 0 (contents.message_part s 0)) []
    (ap (λ (b : List ℕ). are_names (findings_in timescale programme.params 0 b)) (sym whole) ∙ copy-told timescale programme cast files c ok place.0) refl
payload-told timescale programme cast files kept h n ok all l (carries.TablePart s k) is e =
    let told : are_names (flat_map (findings_of_joined timescale programme.params) (messages_with kept h.packet_id h.number)) ≡ true = parts-told timescale programme cast files kept h.packet_id h.number ok all in
    go (k == 0) (k + 1 == (table_copy cast (copy_place cast.copies s)).count) told
  where
    go : (a b : Bool) → are_names (flat_map (findings_of_joined timescale programme.params) (messages_with kept h.packet_id h.number)) ≡ true
        → are_names (findings_by timescale programme.params kept h (Payload.Signalling (cond a part.First (cond b part.Last part.Middle)) ((contents_sent programme files).message_part s k ∷ []))) ≡ true
    go true b told = told
    go false true told = told
    go false false told = told

-- ---- names that are among the live entries are learned

same-numbers : (xs : List ℕ) → pointwise nat_eq xs xs ≡ true
same-numbers [] = refl
same-numbers (x ∷ xs) = and_from (nat_eq x x) (pointwise nat_eq xs xs) (eq-eqb x x refl) (same-numbers xs)

same-times : (e : Entry) → has_same_times e e ≡ true
same-times e = and_from (e.time == e.time) (pointwise nat_eq e.aus e.aus) (eq-eqb e.time e.time refl) (same-numbers e.aus)

all-agree : (e : Entry) (all : List Entry) → AllByRecursion (λ f. is_of_same_mpu e f ≡ true → f ≡ e) all → AllByRecursion (Agrees e) all
all-agree e [] h = tt
all-agree e (f ∷ all) h = ((λ s. subst (λ (x : Entry). has_same_times x e ≡ true) (sym (h.0 s)) (same-times e)), all-agree e all h.1)

all-learned : (now : ℕ) (all es : List Entry) → AllByRecursion (IsAmong all) es → AllByRecursion (IsLearned now all) es
all-learned now all [] h = tt
all-learned now all (e ∷ es) h = (record { agrees = all-agree e all h.0.same; there = λ after. h.0.there }, all-learned now all es h.1)

nothing-left : (now : ℕ) (live es : List Entry) (fs : List Finding) → fs ≡ map (Naming 0) es → AllByRecursion (IsAmong (learn now live es)) es → notes_of now live fs ≡ []
nothing-left now live es fs is h = ap (notes_of now live) is ∙ names-quiet now 0 live es (all-learned now (learn now live es) es h)

-- ---- the newest packet of a session, where it is stored

abbrev LearnedAt : (List ℕ → List Entry) → Params → Heard → List Heard → ℕ → Type 0
LearnedAt names k h older start = became k older h start ≡ Outcome.Stored → AllByRecursion (IsAmong (entries (names_of names) k start (h ∷ older))) (names_of names (kept k start (h ∷ older)) h)

abbrev LearnedNewest : (List ℕ → List Entry) → Params → List Heard → Type 0
LearnedNewest names k [] = Unit {0}
LearnedNewest names k (h ∷ older) = outcome_at k h older ≡ Outcome.Stored → AllByRecursion (IsAmong (entries (names_of names) k (start_of_session (h ∷ older)) (h ∷ older))) (names_of names (kept k (start_of_session (h ∷ older)) (h ∷ older)) h)

learned-newest : (law : NamesAreLearned) (names : List ℕ → List Entry) (cast : Cast) (contents : Contents) (k : Params) → fault cast ≡ None → IsCastOf cast contents names → IsReceiver cast.params k
    → (places hist : List ℕ) → AreOf cast.packets places → NearDelivery cast.packets places → newest_first places ≡ hist → LearnedNewest names k (map (heard_of (packets_of cast contents)) hist)
learned-newest law names cast contents k ok right receiver places [] of near e = tt
learned-newest law names cast contents k ok right receiver places (d ∷ olds) of near e =
    let packets : SentPackets = packets_of cast contents in
    let ds : List ℕ = newest_first olds in
    let split : places ≡ ds ++ d ∷ [] = sym (turned-twice places) ∙ ap newest_first e ∙ turned-one d olds in
    let all : (ds ++ d ∷ []) ++ [] ≡ places = append-nil (ds ++ d ∷ []) ∙ sym split in
    let twice : newest_first ds ≡ olds = turned-twice olds in
    let h : Heard = heard_of packets d in
    let start : start_of_session (h ∷ map (heard_of packets) olds) ≡ low (start_of cast.packets (ds ++ d ∷ [])) =
    ap (λ (ns : List ℕ). start_of_session (map (heard_of packets) ns)) (sym (newest_more ds d ∙ ap (λ (ns : List ℕ). d ∷ ns) twice)) ∙ start-turned packets (ds ++ d ∷ []) in
    let first : LearnedAt names k h (map (heard_of packets) (newest_first ds)) (low (start_of cast.packets (ds ++ d ∷ []))) =
    law names cast contents k ok right receiver ds d [] (subst (AreOf cast.packets) (sym all) of) (subst (NearDelivery cast.packets) (sym all) near) in
    let here : LearnedAt names k h (map (heard_of packets) olds) (start_of_session (h ∷ map (heard_of packets) olds)) =
    subst (λ (t : ℕ). LearnedAt names k h (map (heard_of packets) olds) t) (sym start)
    (subst (λ (ns : List ℕ). LearnedAt names k h (map (heard_of packets) ns) (low (start_of cast.packets (ds ++ d ∷ [])))) twice first) in
    λ stored. here (sym (outcome-is k h (map (heard_of packets) olds)) ∙ stored)

-- what is kept of a delivery has only messages in parts that are of the cast
kept-told : (law : MessagesAreSent) (config : Config) (programme : Programme) (cast : Cast) (files : ℕ → List ℕ) (places : List ℕ) (hs : List Heard) → IsSendable programme cast files → Receives config programme
    → AreOf cast.packets places → NearDelivery cast.packets places → hs ≡ map (heard_of (packets_of cast (contents_sent programme files))) (newest_first places)
    → AreOfCopies programme cast files (kept_by config programme.params hs)
kept-told law config programme cast files places hs ok r of near is =
    let contents : Contents = contents_sent programme files in
    let packets : SentPackets = packets_of cast contents in
    let k : Params = rules_by config programme.params in
    let first : AreOfCopies programme cast files (kept k (low (start_of cast.packets places)) (map (heard_of packets) (newest_first places))) =
    law (names_in config.timescale) cast contents k ok.admitted (casts-carry config.timescale programme cast files ok) (is-receiver config programme cast ok.of r.bound) places [] (subst (AreOf cast.packets) (sym (append-nil places)) of) (subst (NearDelivery cast.packets) (sym (append-nil places)) near) in
    subst (λ (xs : List Heard). AreOfCopies programme cast files (kept k (start_of_session xs) xs)) (sym is)
    (subst (λ (t : ℕ). AreOfCopies programme cast files (kept k t (map (heard_of packets) (newest_first places)))) (sym (start-turned packets places)) first)

-- a stored packet with a table or a part of one leaves nothing to be noted
pub table-quiet : NamesAreLearned → MessagesAreSent → (config : Config) (programme : Programme) (cast : Cast) (files : ℕ → List ℕ) (places : List ℕ) (n : ℕ) (h : Heard) (older : List Heard) → IsSendable programme cast files → Receives config programme
    → AreOf cast.packets places → NearDelivery cast.packets places → n < length cast.packets
    → h ≡ heard_of (packets_of cast (contents_sent programme files)) n → has_table (get_or cast.packets n no_packet).carries ≡ true
    → h ∷ older ≡ map (heard_of (packets_of cast (contents_sent programme files))) (newest_first places)
    → outcome_at (rules_by config programme.params) h older ≡ Outcome.Stored
    → notes_of (clock_of (h ∷ older)) (live_of config programme.params h older) (findings_by config.timescale programme.params (kept_by config programme.params (h ∷ older)) h h.payload) ≡ []
unfolding heard_of names_if_stored
table-quiet law sent config programme cast files places n h older ok r of near l is has all stored =
    let contents : Contents = contents_sent programme files in
    let packets : SentPackets = packets_of cast contents in
    let k : Params = rules_by config programme.params in
    let names : List ℕ → List Entry = names_in config.timescale in
    let kept_now : List Heard = kept_by config programme.params (h ∷ older) in
    let fs : List Finding = findings_by config.timescale programme.params kept_now h h.payload in
    let es : List Entry = names_of names kept_now h in
    let payload : h.payload ≡ payload_carried cast contents (get_or cast.packets n no_packet).carries = ap (λ (x : Heard). x.payload) is in
    let told : are_names fs ≡ true =
    ap (λ (p : Payload). are_names (findings_by config.timescale programme.params kept_now h p)) payload
    ∙ payload-told config.timescale programme cast files kept_now h n ok (kept-told sent config programme cast files places (h ∷ older) ok r of near all) l (get_or cast.packets n no_packet).carries refl has in
    let found : fs ≡ map (Naming 0) es = as-names fs told ∙ ap (map (Naming 0)) (names_of_packet config.timescale programme.params kept_now h) in
    let newest : LearnedNewest names k (h ∷ older) =
    subst (LearnedNewest names k) (sym all) (learned-newest law names cast contents k ok.admitted (casts-carry config.timescale programme cast files ok) (is-receiver config programme cast ok.of r.bound) places (newest_first places) of near refl) in
    let entries_are : entries (names_of names) k (start_of_session (h ∷ older)) (h ∷ older) ≡ learn (clock_of (h ∷ older)) (live_of config programme.params h older) es =
    entries_next (names_of names) k h older ∙ ap (λ (o : Outcome). learn (clock_of (h ∷ older)) (live_of config programme.params h older) (names_if_stored o es)) stored in
    nothing-left (clock_of (h ∷ older)) (live_of config programme.params h older) es fs found (subst (λ (xs : List Entry). AllByRecursion (IsAmong xs) es) entries_are (newest stored))
