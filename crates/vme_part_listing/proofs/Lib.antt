mod LateMarks
mod MarkedRuns
mod MarkedFiles
