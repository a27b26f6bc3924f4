use Rattle.std.proofs.Common.{◌∙◌, map, sym, ap}
use Rattle.step_table.specs.Messages.{plain_sent}
use Rattle.store_node.proofs.store.carry_out.Goals as goal

pub returns-clause-row : goal.returns-clause-row
returns-clause-row c = λ object log st.
    let sends = c.in_ok-sent.ensures object log st in
    record {
      does = record {
        sent = ap (map plain_sent) (c.in_ok-sent-2.ensures ∙ sends.exact);
        effects = c.new.ensures ∙ sym sends.no_effect;
        replies = c.new-2.ensures ∙ sym sends.no_reply;
      };
      stands = sends.stands;
    }
