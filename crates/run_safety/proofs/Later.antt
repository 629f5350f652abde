-- What was sent keeps its cause while families go on.
use Rattle.std.proofs.Common.{List}
use Rattle.bill_diary.specs.declared.record.Record.TheVariants.{Parted, Taken, Declined}
use Rattle.closed_family.specs.declared.family.Member.{Member}
use Rattle.closed_family.specs.Later.{IsLaterThan}
use Rattle.run_safety.specs.Network.{Sent, sent_start, sent_reply}
use Rattle.run_safety.specs.Steady.{HasCause}
use Rattle.run_safety.proofs.Longer.{stands_later}

pub cause_later : (before after : List Member) → IsLaterThan before after → (s : Sent) → HasCause before s
    → HasCause after s
cause_later before after later (sent_start from body) cause = λ parts reads text among.
    let t = cause parts reads text among in
    record {
      p = t.p;
      bill = t.bill;
      link = t.link;
      manifest = t.manifest;
      manifest_text = t.manifest_text;
      stands = stands_later before after later t.p (Parted t.bill t.link t.manifest t.manifest_text) t.stands;
      text_is = t.text_is;
    }
cause_later before after later (sent_reply from bytes) cause = λ keys who r sealed.
    let t = cause keys who r sealed in
    record {
      signer = t.signer;
      receipt = λ is entry last.
          let w = t.receipt is entry last in
          record { bill = w.bill; stands = stands_later before after later from (Taken w.bill entry) w.stands };
      standing = λ is entry last.
          let w = t.standing is entry last in
          record {
            bill = w.bill;
            code = w.code;
            reason = w.reason;
            evidence = w.evidence;
            stands = stands_later before after later from (Declined w.bill entry w.code w.reason w.evidence) w.stands;
          };
    }
