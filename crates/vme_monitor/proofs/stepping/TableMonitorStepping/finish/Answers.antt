use Rattle.vme_monitor.proofs.stepping.TableMonitorStepping.finish.Goals as goal

pub returns-clause-stands : goal.returns-clause-stands
returns-clause-stands g c = λ o x e t. c.finish.ensures.stands o x e t.0
