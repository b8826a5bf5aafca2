-- What the grammar makes of the words whose order is known.
use Rattle.std.proofs.Common.{List, ℕ, subst}
use Rattle.sup_words.specs.Orders.{WordsLeadTo}
use Rattle.sup_words.proofs.Loads.{load_leads}
use Rattle.sup_words.proofs.Leads.{script_leads, replay_leads}
use Rattle.sup_words.proofs.words.read_words.Goals as goal

pub returns-clause-script : goal.returns-clause-script
returns-clause-script g c = λ name words.
    script_leads name c.lead.result (subst (λ (v : List (List ℕ)). WordsLeadTo v c.lead.result) words c.lead.ensures)

pub returns-clause-replay : goal.returns-clause-replay
returns-clause-replay g c = λ name words.
    replay_leads name c.lead.result (subst (λ (v : List (List ℕ)). WordsLeadTo v c.lead.result) words c.lead.ensures)

pub returns-clause-load : goal.returns-clause-load
returns-clause-load g c = λ name given w n r t whole words.
    load_leads name given w n r t whole c.lead.result (subst (λ (v : List (List ℕ)). WordsLeadTo v c.lead.result) words c.lead.ensures)
