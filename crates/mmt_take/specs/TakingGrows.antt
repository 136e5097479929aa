-- What `take` puts out grows with the packets.
use Rattle.std.proofs.Common.{◌≡◌, List, [], ◌∷◌, ◌++◌, refl, ap, sym, subst, ◌∙◌, append_assoc}
use Rattle.std.proofs.lemmas.List.{append-nil}
use Rattle.mmt_model.specs.Delivery.{onto, newest_first}
use Rattle.mmt_tlv.specs.Framing.{Packet}
use Rattle.mmt_io.specs.Output.{nothing, followed, IsPrefixOf}
use Rattle.mmt_stream.specs.Consuming.{Grows}
use Rattle.mmt_stream.proofs.Outputs.{start_trans, start_of_both}
use Rattle.mmt_output.proofs.Putting.{start_itself}
use Rattle.mmt_tune.specs.declared.config.Config.{Config}
use Rattle.mmt_recv.specs.Receiving.{received, more}
use Rattle.mmt_recv.proofs.Received.{received_more, received_none}
use Rattle.mmt_model.proofs.Newest.{newest_more}
use Rattle.mmt_take.specs.Taking.{taking, placed, bytes_of, at_last}

pub placed_none : placed (newest_first []) ≡ []
unfolding newest_first onto placed
placed_none = refl

none_yet : (config : Config) → received config (placed (newest_first [])) ≡ nothing
none_yet config = ap (received config) placed_none ∙ received_none config

placed_one : (packet : Packet) (older : List Packet) → placed (packet ∷ older) ≡ record { place = bytes_of older; packet = packet } ∷ placed older
unfolding placed
placed_one packet older = refl

-- a packet more stands after all bytes before it
pub placed_next : (packets : List Packet) (packet : Packet)
    → placed (newest_first (packets ++ packet ∷ [])) ≡ record { place = bytes_of (newest_first packets); packet = packet } ∷ placed (newest_first packets)
placed_next packets packet = ap placed (newest_more packets packet) ∙ placed_one packet (newest_first packets)

-- what a packet more puts out
pub received_next : (config : Config) (packets : List Packet) (packet : Packet)
    → followed (received config (placed (newest_first packets))) (more config (placed (newest_first packets)) (record { place = bytes_of (newest_first packets); packet = packet }))
    ≡ received config (placed (newest_first (packets ++ packet ∷ [])))
received_next config packets packet =
    sym (ap (received config) (placed_next packets packet) ∙ received_more config (placed (newest_first packets)) (record { place = bytes_of (newest_first packets); packet = packet }))

one_more : (config : Config) (packets : List Packet) (packet : Packet)
    → IsPrefixOf (received config (placed (newest_first packets))) (received config (placed (newest_first (packets ++ packet ∷ []))))
one_more config packets packet = start_of_both _ _ _ (received_next config packets packet)

pub goes_on : (config : Config) (packets others : List Packet)
    → IsPrefixOf (received config (placed (newest_first packets))) (received config (placed (newest_first (packets ++ others))))
goes_on config packets [] = subst (λ l. IsPrefixOf (received config (placed (newest_first packets))) (received config (placed (newest_first l)))) (sym (append-nil packets)) (start_itself _)
goes_on config packets (p ∷ others) =
    start_trans _ _ _ (one_more config packets p)
    (subst (λ l. IsPrefixOf (received config (placed (newest_first (packets ++ p ∷ [])))) (received config (placed (newest_first l)))) (append_assoc packets (p ∷ []) others) (goes_on config (packets ++ p ∷ []) others))

pub taking_grows : (config : Config) → Grows (taking config)
taking_grows config = record {
  none = none_yet config;
  more = goes_on config;
  end = λ packets. start_of_both _ (at_last config (placed (newest_first packets))) _ refl;
}
