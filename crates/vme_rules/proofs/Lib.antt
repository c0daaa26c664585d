mod GuideLemmas
