mod NobodyStays
