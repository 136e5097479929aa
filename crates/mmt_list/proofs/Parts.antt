-- The parts of a line put together, and what stood before them.
use Rattle.std.proofs.Common.{◌≡◌, ◌≢◌, ◌∙◌, refl, sym, ap, ℕ, ◌+◌, ◌≤◌, List, [], ◌++◌, length, take, codes, Result, Ok, Err, arith, append_assoc}
use Rattle.std.proofs.lemmas.List.{append-nil, take-append-le, take_all}
use Rattle.std.proofs.lemmas.Bool.{ne_eqb}
use Rattle.mmt_base.specs.declared.refused.Refused.{Refused}
use Rattle.mmt_tlv.specs.Framing.{Packet}
use Rattle.mmt_ip.specs.Reading.{packet_of as datagram_of}
use Rattle.mmt_ctx.specs.declared.packet.CtxWhy.{CtxWhy}
use Rattle.mmt_ctx.specs.Headers.{Header, opened_after}
use Rattle.mmt_hear.specs.Hearing.{ctx_reason, payload_place, compressed_bodies}
use Rattle.mmt_list.specs.Text.{head_text, ctx_text}
use Rattle.mmt_words.specs.Words.{why_words}
use Rattle.mmt_list.specs.Line.{refused_text, port_section, ip_section, ctx_section, sections, line_of}

-- what stood there stands there still, where a text was appended up to a part that is left
pub front_of : (old next left more : List ℕ) → length old ≤ length next → next ++ left ≡ old ++ more → take (length old) next ≡ old
front_of old next left more long is =
    sym (take-append-le (length old) next left long) ∙ (ap (take (length old)) is ∙ (take-append-le (length old) old more (omega arith) ∙ take_all (length old) old (omega arith)))

-- a header-compressed packet that was opened, and one that was refused
pub ctx_opened : (old first next : List ℕ) (place : ℕ) (read : Result Header (Refused CtxWhy)) (h : Header) → read ≡ Ok h → first ≡ old ++ ctx_text h
    → next ≡ first ++ port_section h.header.destination_port (place + payload_place h.full) h.payload → next ≡ old ++ ctx_section place read
unfolding ctx_section
ctx_opened old first next place read h is head more = rw is (more ∙ rw head (append_assoc old (ctx_text h) _))

pub ctx_refused : (old next : List ℕ) (place : ℕ) (read : Result Header (Refused CtxWhy)) (e : Refused CtxWhy) → read ≡ Err e
    → next ≡ old ++ refused_text (place + (4 + e.at)) (why_words (ctx_reason e.why)) → next ++ [] ≡ old ++ ctx_section place read
unfolding ctx_section
ctx_refused old next place read e is more = rw is (append-nil next ∙ more)

-- a packet that says this
abbrev pub packet_of : ℕ → List ℕ → Packet
packet_of kind body = record { kind = kind; body = body }

pub ip_sections : (place : ℕ) (earlier : List Packet) (kind : ℕ) (body : List ℕ) → kind ≡ 2 → sections place earlier (packet_of kind body) ≡ ip_section place (datagram_of body)
unfolding sections
ip_sections place earlier kind body is = rw is refl

pub ctx_sections : (place : ℕ) (earlier : List Packet) (kind : ℕ) (body : List ℕ) → kind ≡ 3
    → sections place earlier (packet_of kind body) ≡ ctx_section place (opened_after (compressed_bodies earlier) body)
unfolding sections
ctx_sections place earlier kind body is = rw is refl

pub no_sections : (place : ℕ) (earlier : List Packet) (kind : ℕ) (body : List ℕ) → kind ≢ 2 → kind ≢ 3 → sections place earlier (packet_of kind body) ≡ []
unfolding sections
no_sections place earlier kind body a b = rw (ne_eqb kind 2 a, ne_eqb kind 3 b) refl

-- the head, the sections and the line feed are the line
pub whole_line : (old first next last left : List ℕ) (place : ℕ) (earlier : List Packet) (packet : Packet) (kind : ℕ) (body : List ℕ) → packet ≡ packet_of kind body
    → first ≡ old ++ head_text place kind (length body) → next ++ left ≡ first ++ sections place earlier (packet_of kind body) → last ≡ next ++ (left ++ codes "\n")
    → last ≡ old ++ line_of place earlier packet
unfolding line_of
whole_line old first next last left place earlier packet kind body is head more end =
    rw is (end ∙ (sym (append_assoc next left (codes "\n")) ∙ rw (more, head) (simp append_assoc)))
